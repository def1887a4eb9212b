-- Texts, put one behind the other.
use Prim.Native.Nat.{ℕ, zero, suc, ◌+◌, ◌≤◌, ◌<◌}
use mathlib.Core.Bool.{Bool, true, false}
use mathlib.Core.List.{List, [], ◌++◌}
use mathlib.Core.Path.{◌≡◌, refl, sym, ap, ◌∙◌, subst}
use native.Mathlib.Omega.{arith}
use lib.Dec.{eqb}
use lib.ListN.{length, take, drop, length-append, take-append-drop}
use Rattle.octets.specs.Choice.{pick}
use Rattle.octets.specs.Parts.{patch}
use Rattle.octets.proofs.Parts.{patch-join}
use Rattle.octets.specs.Lists.{collect}
use Rattle.on_disk.specs.declared.Layout.{Layout}
use Rattle.volume_check.specs.Check.{flags_of, count_of}
use Rattle.volume_report.specs.Report.{line_of, layout_line, flagged, bad_line, bad_lines, checked_text, check_text}
use Rattle.volume_report.specs.Text.{Adds}
use Rattle.volume_report.specs.declared.Text.{Text}
use Rattle.volume_check.proofs.Checks.{get_flags}

-- no text
pub nothing-adds : (t : Text) → t.len ≤ length t.bytes.now → Adds t [] t
nothing-adds t room =
    let same : t.len ≡ t.len + 0 = omega arith in
    record {
      same_buffer = refl;
      puts = record { text = sym (ap (λ (k : ℕ). take t.len t.bytes.now ++ drop k t.bytes.now) (sym same) ∙ take-append-drop t.len t.bytes.now); end = same };
      size = refl;
      room = room;
    }

-- a text by another name
pub adds-as : {t t' : Text} {x y : List ℕ} → x ≡ y → Adds t x t' → Adds t y t'
adds-as {t} {t'} {x} {y} e p = subst (λ (z : List ℕ). Adds t z t') e p

-- two texts, the second behind the first
pub then-adds : {t t' t'' : Text} {x y : List ℕ} → Adds t x t' → Adds t' y t'' → Adds t (x ++ y) t''
then-adds {t} {t'} {t''} {x} {y} p q =
    record {
      same_buffer = q.same_buffer ∙ p.same_buffer;
      puts = record {
        text =
            q.puts.text ∙ ap (λ (k : ℕ). patch t'.bytes.now k y) p.puts.end ∙ ap (λ (l : List ℕ). patch l (t.len + length x) y) p.puts.text
            ∙ patch-join t.bytes.now t.len x y (omega (arith, q.room, q.size, p.size, p.puts.end, q.puts.end));
        end = q.puts.end ∙ rw (p.puts.end, length-append x y) (omega arith);
      };
      size = q.size ∙ p.size;
      room = q.room;
    }

-- ---- flags, as the lines of bad sectors

collect-same : (f h : ℕ → List ℕ) (n m : ℕ) → ((i : ℕ) → i < m → f i ≡ h i) → n ≤ m → collect n f ≡ collect n h
collect-same f h zero m e l = refl
collect-same f h (suc n) m e l = λ i. collect-same f h n m e (omega arith) i ++ e n (omega arith) i

pub flags-lines : (bad : ℕ → Bool) (n : ℕ) → bad_lines (flagged (flags_of bad n)) n ≡ bad_lines bad n
flags-lines bad n =
    collect-same (λ s. pick (flagged (flags_of bad n) s) (bad_line s) []) (λ s. pick (bad s) (bad_line s) []) n n
    (λ i l. ap (λ (k : ℕ). pick (eqb k 1) (bad_line i) []) (get_flags bad n i l) ∙ flag-line i (bad i)) (omega arith)
  where
    flag-line : (i : ℕ) (b : Bool) → pick (eqb (pick b 1 0) 1) (bad_line i) [] ≡ pick b (bad_line i) []
    flag-line i true = refl
    flag-line i false = refl

-- the lines of a check, by the flags and the count that it found
pub checked-text : (g : Layout) (stores : ℕ) (bad : ℕ → Bool) (n : ℕ) {flags : List ℕ} {count : ℕ} → n ≡ g.provided
    → flags ≡ flags_of bad n → count ≡ count_of bad n → checked_text g stores (flagged flags) count ≡ check_text g stores bad
checked-text g stores bad n {flags} {count} size e q =
    let lines : bad_lines (flagged flags) g.provided ≡ bad_lines bad g.provided =
    ap (λ (f : List ℕ). bad_lines (flagged f) g.provided) (e ∙ ap (flags_of bad) size) ∙ flags-lines bad g.provided in
    λ i. layout_line g ++ line_of "replay " stores ++ lines i ++ line_of "bad " ((q ∙ ap (count_of bad) size) i)
