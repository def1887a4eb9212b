-- What a call did with a text.
--
-- Adds t x t'       : it put the bytes x behind the text t, in the same buffer; t' is the text afterwards
-- Checks o t a t' v' : a check that answers a: it added the report o to the text t, or left t as it was where it is refused, and o is the line of the refusal;
--                     t' and v' are the text and the image afterwards
use Rattle.std.specs.Prelude.{ℕ, ◌≤◌, Result, Ok, Err, List, ◌≡◌, length}
use Rattle.model.specs.declared.Refusal.{Refusal}
use Rattle.model.specs.Refusal.{refusal_of}
use Rattle.volume_report.specs.declared.Text.{Text}
use Rattle.volume_report.specs.Report.{Report, refused_line, Puts}

pub record Adds (t : Text) (x : List ℕ) (t' : Text) : Type 0 where
  pub same_buffer : t'.bytes.ghost_name ≡ t.bytes.ghost_name
  pub puts : Puts t.bytes.now t.len x t'.len t'.bytes.now
  pub size : length t'.bytes.now ≡ length t.bytes.now
  pub room : t'.len ≤ length t'.bytes.now

abbrev pub Checks : Report → Text → Result (Unit {0}) Refusal → Text → List ℕ → Type 0
Checks o t (Ok x) t' v' = Adds t o.text t' × (v' ≡ o.image)
Checks o t (Err r) t' v' = (t' ≡ t) × (o.text ≡ refused_line (refusal_of r)) × (v' ≡ o.image)
