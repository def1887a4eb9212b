-- The calls that make and open a volume, over buffers. R36, R38, R71.
--
-- layout_with r h w n p      : the layout that format is handed: reserved sectors, shift, width, sections, sectors provided
-- format_leaves o ..         : what the call of that name leaves where the model's has the result o
-- format_call v g a          : what gaffreel_volume_format leaves of the volume v, the layout g and the answer's buffer a
-- query_call v r l a         : what gaffreel_volume_query leaves; r is the number of reserved sectors, and l the buffer that receives the layout
-- OpenBuffers               : what the other buffers of gaffreel_volume_open hold
-- open_call v st r s a       : what it leaves, of staging st too; s is the buffer that receives the state
-- RefusedSetupKeeps         : a call that is refused leaves every buffer but the answer's as it was
use Rattle.std.specs.Prelude.{ℕ, false, List, length}
use Rattle.octets.specs.Answer.{Answer}
use Rattle.on_disk.specs.declared.Layout.{Layout}
use Rattle.model.specs.Tag.{tag_of}
use Rattle.model.specs.Format.{FormatResult, format_of}
use Rattle.model.specs.Open.{OpenResult, open_of}
use Rattle.model.specs.Query.{query_of}
use Rattle.c_numbers.specs.Sizes.{layout_size, volume_state_size}
use Rattle.octets.specs.Choice.{differs}
use Rattle.c_numbers.specs.Called.{Called, called, Keeps}
use Rattle.c_replies.specs.Replies.{replying, plain_reply, open_reply, query_reply, opened_bytes, held_bytes}

-- ---- format

abbrev pub layout_with : ℕ → ℕ → ℕ → ℕ → ℕ → Layout
layout_with r h w n p = record { reserved = r; shift = h; width = w; sections = n; provided = p }

abbrev pub format_leaves : FormatResult → Called (List ℕ)
format_leaves o = replying (plain_reply o.answer) o.volume

-- it tests the answer's buffer alone
unfoldable pub format_call : List ℕ → Layout → List ℕ → Called (List ℕ)
format_call v g a = called a false v (format_leaves (format_of tag_of g v))

-- ---- query

abbrev pub query_leaves : Answer ℕ (Layout × ℕ) → List ℕ → Called (List ℕ)
query_leaves o l = replying (query_reply o) (held_bytes o l)

unfoldable pub query_call : List ℕ → ℕ → List ℕ → List ℕ → Called (List ℕ)
query_call v r l a = called a (differs (length l) layout_size) l (query_leaves (query_of r v) l)

-- ---- open

pub record OpenBuffers : Type 0 where
  pub staging : List ℕ
  pub state : List ℕ

abbrev pub open_leaves : OpenResult → List ℕ → Called OpenBuffers
open_leaves o s = replying (open_reply o.answer) (record { staging = o.staging; state = opened_bytes o.answer s })

unfoldable pub open_call : List ℕ → List ℕ → ℕ → List ℕ → List ℕ → Called OpenBuffers
open_call v st r s a =
    called a (differs (length s) volume_state_size) (record { staging = st; state = s }) (open_leaves (open_of tag_of r v st) s)

-- ---- refusals; the proofs are in proofs/Refusals

pub record RefusedSetupKeeps : Type 0 where
  pub format : (v : List ℕ) (g : Layout) (a : List ℕ) → Keeps (format_call v g a) v
  pub query : (v : List ℕ) (r : ℕ) (l a : List ℕ) → Keeps (query_call v r l a) l
  pub opens : (v st : List ℕ) (r : ℕ) (s a : List ℕ) → Keeps (open_call v st r s a) (record { staging = st; state = s })
