-- Read: the newest staged entry, the tag of a sector, and what a read gives behind its tests.
use Prim.Native.Nat.{ℕ, zero, suc, ◌+◌, ◌-◌, ◌*◌, ◌≤◌, ◌<◌}
use mathlib.Core.Bool.{Bool, true, false, ◌&&◌}
use mathlib.Core.List.{List, [], ◌∷◌, ◌++◌}
use mathlib.Core.Logic.{◌≢◌}
use mathlib.Core.Path.{◌≡◌, sym, ap, ◌∙◌}
use native.Mathlib.Omega.{arith}
use lib.ListN.{length}
use Rattle.std.proofs.Common.{Some, None}
use borrow.Author.Tests.{eqb-true, eq-eqb, ne_eqb, lt-ltb, le-ltb, lt-leb}
use Rattle.octets.specs.Answer.{refuse}
use Rattle.octets.specs.Numbers.{le}
use Rattle.octets.specs.Parts.{part, patch, same}
use Rattle.octets.proofs.Parts.{length_part, patch-all}
use Rattle.octets.specs.Sectors.{sector_at}
use Rattle.octets.specs.Choice.{first_met}
use Rattle.octets.specs.Lists.{if_below}
use Rattle.octets.proofs.Lists.{some-below, none-below}
use Rattle.on_disk.specs.declared.Layout.{Layout}
use Rattle.model.specs.declared.State.{State}
use Rattle.on_disk.specs.Layout.{data_at, tag_byte}
use Rattle.on_disk.specs.Section.{entry_of}
use Rattle.on_disk.proofs.Addresses.{and_both}
use Rattle.model.specs.Tag.{Tags, tag_at}
use Rattle.model.specs.State.{passed, state_ok, volume_ok, staged_ok, sector_ok, is_recovering}
use Rattle.model.specs.Read.{newest_for, staged_for, read_rows, read_of}
use Rattle.sound.specs.declared.tag.Rule.{Rule}
use Rattle.sound.specs.Rule.{digest_by, tag_by}

pub newest-hit : (t d n i : ℕ) (st : List ℕ) → 0 < i → (entry_of t st (i - 1)).sector ≡ n → i - 1 ≡ newest_for t st d i n
newest-hit t d n zero st l e = absurd (omega arith)
newest-hit t d n (suc i) st l e =
    let z : suc i - 1 ≡ i = omega arith in
    rw (z, eq-eqb (entry_of t st i).sector n (rw z at e))

pub newest-miss : (t d n i : ℕ) (st : List ℕ) → 0 < i → (entry_of t st (i - 1)).sector ≢ n → newest_for t st d i n ≡ newest_for t st d (i - 1) n
newest-miss t d n zero st l e = absurd (omega arith)
newest-miss t d n (suc i) st l e =
    let z : suc i - 1 ≡ i = omega arith in
    rw (z, ne_eqb (entry_of t st i).sector n (rw z at e))

-- the tag test: what stands at the place of the tag, against the first bytes of the digest
pub fits-is : (q : Rule) (g : Layout) (v : List ℕ) (n : ℕ) (d : List ℕ) (r : Bool) (at start end : ℕ) → at ≡ tag_byte g n → start ≡ data_at g n * 512 → end ≡ start + 512 → d ≡ digest_by q (le 8 n ++ part v start (end - start))
    → r ≡ same (part v at g.width) (part d 0 g.width) → r ≡ same (tag_at g v n) (tag_by q g.width n (sector_at v (data_at g n)))
fits-is q g v n d r at start end ea es ee ed er =
    let size : end - start ≡ 512 = omega arith in
    rw (er, ed, size, ea, es)

module _ (tags : Tags) (s : State) (v st : List ℕ) (n : ℕ) (loan : List ℕ)
    (ok : state_ok s && (volume_ok s v && (staged_ok s st && sector_ok loan)) ≡ true) (ready : is_recovering s.phase ≡ false) (low : n < s.layout.provided) where
  -- with the newest entry, which is staged
  pub found-staged : (i : ℕ) → Some i ≡ if_below s.count (staged_for s st n) → record { answer = passed; sector = (entry_of s.layout.width st i).bytes } ≡ read_of tags s v st n loan
  unfolding read_of
  found-staged i e =
      let at = some-below s.count (staged_for s st n) i (sym e) in
      let below = lt-ltb (staged_for s st n) s.count at.1 in
      let rules : first_met (read_rows tags s v st n loan) passed ≡ passed = rw (ok, ready, lt-leb s.layout.provided n low, below) in
      rw (rules, below, at.0)

  -- where none is staged
  module _ (none : None ≡ if_below s.count (staged_for s st n)) where
    pub mismatch : same (tag_at s.layout v n) (tags s.layout.width n (sector_at v (data_at s.layout n))) ≡ false → record { answer = refuse 7 (n ∷ []); sector = loan } ≡ read_of tags s v st n loan
    unfolding read_of
    mismatch q = rw (ok, ready, lt-leb s.layout.provided n low, le-ltb (staged_for s st n) s.count (none-below s.count (staged_for s st n) (sym none)), q)

    pub found-home : same (tag_at s.layout v n) (tags s.layout.width n (sector_at v (data_at s.layout n))) ≡ true → record { answer = passed; sector = sector_at v (data_at s.layout n) } ≡ read_of tags s v st n loan
    unfolding read_of
    found-home q =
        let above = le-ltb (staged_for s st n) s.count (none-below s.count (staged_for s st n) (sym none)) in
        let rules : first_met (read_rows tags s v st n loan) passed ≡ passed = rw (ok, ready, lt-leb s.layout.provided n low, above, q) in
        rw (rules, above)

-- what the first check gives
module _ (s : State) (v st loan : List ℕ) (ok : state_ok s && (volume_ok s v && (staged_ok s st && sector_ok loan)) ≡ true) where
  loans : volume_ok s v && (staged_ok s st && sector_ok loan) ≡ true
  loans = (and_both (state_ok s) (volume_ok s v && (staged_ok s st && sector_ok loan)) ok).1

  lengths : staged_ok s st && sector_ok loan ≡ true
  lengths = (and_both (volume_ok s v) (staged_ok s st && sector_ok loan) loans).1

  pub state-ok : state_ok s ≡ true
  state-ok = (and_both (state_ok s) (volume_ok s v && (staged_ok s st && sector_ok loan)) ok).0

  pub volume-ok : volume_ok s v ≡ true
  volume-ok = (and_both (volume_ok s v) (staged_ok s st && sector_ok loan) loans).0

  pub staged-ok : staged_ok s st ≡ true
  staged-ok = (and_both (staged_ok s st) (sector_ok loan) lengths).0

  pub sector-length : length loan ≡ 512
  sector-length = eqb-true (length loan) 512 (and_both (staged_ok s st) (sector_ok loan) lengths).1

-- a sector copied into a loan as long
pub sector-copied : (g : Layout) (v : List ℕ) (n a : ℕ) (loan r : List ℕ) → a ≡ data_at g n → (a + 1) * 512 ≤ length v → length loan ≡ 512
    → r ≡ patch loan 0 (part v (a * 512) 512) → r ≡ sector_at v (data_at g n)
sector-copied g v n a loan r ea fits whole e =
    let size : length (part v (a * 512) 512) ≡ length loan = length_part v (a * 512) 512 (omega arith) ∙ sym whole in
    e ∙ patch-all loan (part v (a * 512) 512) size ∙ ap (λ (x : ℕ). part v (x * 512) 512) ea
