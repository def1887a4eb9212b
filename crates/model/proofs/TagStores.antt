-- The stores of a tag: specs/TagStores.
use Prim.Native.Nat.{ℕ, ◌+◌, ◌*◌, ◌/◌, ◌%◌, ◌≤◌, ◌<◌}
use mathlib.Core.Bool.{Bool, true, false, not, ◌&&◌}
use mathlib.Core.List.{List, [], ◌∷◌}
use mathlib.Core.Path.{◌≡◌, refl, sym, ap, ◌∙◌}
use native.Mathlib.Decide.{dec_lt}
use native.Mathlib.Omega.{arith}
use lib.ListN.{length, take, drop, get_or, length-take, length-drop, take-append-drop}
use lib.Dec.{leb, ltb, eqb}
use borrow.Author.Tests.{lt-ltb, le-leb}
use lib.Seq.{take_all}
use Rattle.octets.specs.Answer.{refuse}
use Rattle.octets.specs.Choice.{pick}
use Rattle.octets.specs.Parts.{part, patch}
use Rattle.octets.specs.Sectors.{sector_at}
use Rattle.octets.proofs.Parts.{length-patch, patch-join}
use Rattle.on_disk.specs.declared.Layout.{Layout}
use Rattle.on_disk.specs.Layout.{entry_count, layout_ok, data_at, tag_byte, tag_sector, crosses, first_piece, needed}
use Rattle.on_disk.specs.Section.{Entry, entry_of}
use Rattle.on_disk.proofs.Addresses.{Ranged, ranged, tag-sector, tag-offset, not-crossing, crossing, data-room, tag-end}
use Rattle.model.specs.declared.Phase.TheVariants.{WritingBack}
use Rattle.model.specs.declared.State.{State}
use Rattle.model.specs.Tag.{Tags}
use Rattle.model.specs.Store.{made, home_count, home_store, homes_made}
use Rattle.model.specs.State.{state_ok, staging_ok, staged_ok, sector_ok, volume_ok, is_filling, in_phase}
use Rattle.model.specs.Write.{write_of}
use Rattle.model.specs.Flush.{flush_of}
use Rattle.model.specs.Step.{step_of}
use Rattle.model.specs.NextStore.{next_store_of}
use Rattle.model.specs.Read.{read_of}
use Rattle.model.specs.TagStores.{BringsHome, TagByItsSectors, ThirdStore}
use Rattle.model.proofs.Homes.{tag-store}
use Rattle.model.proofs.FirstRule.{malformed-first}
use Rattle.model.proofs.Plans.{Homing, in_one, in_two, homing, home-in-one, home-in-two, home_some}
use Rattle.model.proofs.States.{staged-in}
use Rattle.model.proofs.Volumes.{part_bytes, get_or-sector}

-- ---- an entry comes home

module _ (g : Layout) (R : Ranged g) (v : List ℕ) (room : needed g * 512 ≤ length v)
    (e : Entry) (low : e.sector < g.provided) (whole : length e.bytes ≡ 512) (sized : length e.tag ≡ g.width) where
  -- with the data sector stored
  abbrev data-made : List ℕ
  data-made = patch v (data_at g e.sector * 512) e.bytes

  abbrev from : ℕ
  from = tag_byte g e.sector

  data-length : length data-made ≡ length v
  data-length = length-patch v (data_at g e.sector * 512) e.bytes (omega (arith, data-room g R e.sector low))

  abbrev first : List ℕ
  first = take (first_piece g e.sector) e.tag

  abbrev rest : List ℕ
  rest = drop (first_piece g e.sector) e.tag

  one-made : homes_made g v e 2 ≡ patch data-made from first
  one-made =
      let z : tag_byte g e.sector + 0 ≡ tag_byte g e.sector = omega arith in
      tag-store g R (λ s b. []) data-made (omega (arith, data-length)) e low whole sized 0 (home_some g e)
      ∙ ap (λ (x : ℕ). patch data-made x first) z

  comes_home : Homing g e → homes_made g v e (home_count g e) ≡ patch data-made from e.tag
  comes_home (in_one c n) =
      ap (homes_made g v e) n ∙ one-made
      ∙ ap (patch data-made from) (take_all (first_piece g e.sector) e.tag (omega (arith, not-crossing g R e.sector c)))
  comes_home (in_two c n) =
      let fits : from + length first + length rest ≤ length data-made =
      omega (arith, data-length, tag-end g R e.sector low, length-take (first_piece g e.sector) e.tag, length-drop (first_piece g e.sector) e.tag) in
      let long : length (patch data-made from first) ≡ length data-made = length-patch data-made from first (omega arith) in
      let size : from + first_piece g e.sector ≡ from + length first = omega (arith, length-take (first_piece g e.sector) e.tag, crossing g R e.sector c) in
      ap (homes_made g v e) n
      ∙ ap (λ (x : List ℕ). made x (home_store g x e 2)) one-made
      ∙ tag-store g R (λ s b. []) (patch data-made from first) (omega (arith, data-length, long)) e low whole sized 1 (omega arith)
      ∙ ap (λ (x : ℕ). patch (patch data-made from first) x rest) size
      ∙ patch-join data-made from first rest fits
      ∙ ap (patch data-made from) (take-append-drop (first_piece g e.sector) e.tag)

pub brings-home : BringsHome
brings-home g ok v room e low whole sized = comes_home g (ranged g ok) v room e (omega arith) whole sized (homing g e)

-- ---- a tag by its sectors

-- a range of bytes by the sectors in which it lies
pub part-sectors : (v w : List ℕ) (b n : ℕ) → length v ≡ length w
    → ((a : ℕ) → b / 512 ≤ a → a * 512 < b + n → sector_at v a ≡ sector_at w a) → part v b n ≡ part w b n
part-sectors v w b n e h =
    part_bytes v w b n e
    (λ i l. sym (get_or-sector v (b + i))
    ∙ ap (λ (x : List ℕ). get_or x ((b + i) % 512) 0) (h ((b + i) / 512) (omega arith) (omega arith))
    ∙ get_or-sector w (b + i))

pub tag-by-its-sectors : TagByItsSectors
tag-by-its-sectors g ok v w e s p q = part-sectors v w (tag_byte g s) g.width e (λ a l h. go a l h (dec_lt (tag_sector g s) a))
  where
    R : Ranged g
    R = ranged g ok

    next : (b : Bool) → crosses g s ≡ b → (a : ℕ) → a * 512 < tag_byte g s + g.width → tag_sector g s < a → sector_at v a ≡ sector_at w a
    next true c a h l =
        let z : tag_sector g s + 1 ≡ a = omega (arith, tag-sector g R s, tag-offset g R s, R.t.bound) in
        ap (sector_at v) (sym z) ∙ q c ∙ ap (sector_at w) z
    next false c a h l = absurd (omega (arith, tag-sector g R s, not-crossing g R s c))

    go : (a : ℕ) → tag_byte g s / 512 ≤ a → a * 512 < tag_byte g s + g.width → Dec (tag_sector g s < a) → sector_at v a ≡ sector_at w a
    go a l h (yes k) = next (crosses g s) refl a h k
    go a l h (no k) =
        let z : tag_sector g s ≡ a = omega (arith, tag-sector g R s, tag-offset g R s) in
        ap (sector_at v) (sym z) ∙ p ∙ ap (sector_at w) z

-- ---- the third store of an entry

and-false : (a b c : Bool) → c ≡ false → a && (b && c) ≡ false
and-false true true c e = e
and-false true false c e = refl
and-false false b c e = refl

module _ (s : State) (v st : List ℕ) (i : ℕ) (alone : crosses s.layout (entry_of s.layout.width st i).sector ≡ false) where
  abbrev third : State
  third = in_phase s (WritingBack i 2)

  no_third : staged_ok third st ≡ false
  unfolding staged_ok
  no_third =
      ap (λ (k : ℕ). staging_ok s.layout st && ltb 2 k) (home-in-one s.layout (entry_of s.layout.width st i) alone)
      ∙ and-false true (staging_ok s.layout st) false refl

  unsound : state_ok third && (volume_ok third v && staged_ok third st) ≡ false
  unsound = and-false (state_ok third) (volume_ok third v) (staged_ok third st) no_third

  step-refused : (step_of third v st).answer ≡ refuse 1 []
  unfolding step_of
  step-refused = rw unsound

  next-refused : (out : List ℕ) → (next_store_of third v st out).answer ≡ refuse 1 []
  unfolding next_store_of
  next-refused out = go (sector_ok out) refl
    where
      go : (b : Bool) → sector_ok out ≡ b → (next_store_of third v st out).answer ≡ refuse 1 []
      go true e = rw (e, unsound)
      go false e = rw e

  read-refused : (tags : Tags) (n : ℕ) (loan : List ℕ) → (read_of tags third v st n loan).answer ≡ refuse 1 []
  unfolding read_of
  read-refused tags n loan =
      rw (and-false (state_ok third) (volume_ok third v) (staged_ok third st && sector_ok loan) (ap (λ (x : Bool). x && sector_ok loan) no_third))

-- in any phase but filling, write and flush ask whether the state is sound and the loans are of their length, and nothing more

write-says : (tags : Tags) (s : State) (st : List ℕ) (n : ℕ) (bytes : List ℕ) → is_filling s.phase ≡ false
    → (write_of tags s st n bytes).answer ≡ pick (state_ok s && (staging_ok s.layout st && sector_ok bytes)) (refuse 9 []) (refuse 1 [])
unfolding write_of
write-says tags s st n bytes f = go (state_ok s && (staging_ok s.layout st && sector_ok bytes)) refl
  where
    go : (b : Bool) → state_ok s && (staging_ok s.layout st && sector_ok bytes) ≡ b → (write_of tags s st n bytes).answer ≡ pick b (refuse 9 []) (refuse 1 [])
    go true e = rw (e, f)
    go false e = rw e

flush-says : (s : State) → is_filling s.phase ≡ false → (flush_of s).answer ≡ pick (state_ok s) (refuse 9 []) (refuse 1 [])
unfolding flush_of
flush-says s f = go (state_ok s) refl
  where
    go : (b : Bool) → state_ok s ≡ b → (flush_of s).answer ≡ pick b (refuse 9 []) (refuse 1 [])
    go true e = rw (e, f)
    go false e = rw e

sound-third : (s : State) (i : ℕ) → state_ok (in_phase s (WritingBack i 2)) ≡ state_ok (in_phase s (WritingBack i 0))
unfolding state_ok
sound-third s i = refl

-- an entry that is not below P and has the store
step-beyond : (s : State) (v st : List ℕ) (i : ℕ) → state_ok (in_phase s (WritingBack i 2)) ≡ true → volume_ok (in_phase s (WritingBack i 2)) v ≡ true
    → staging_ok s.layout st ≡ true → crosses s.layout (entry_of s.layout.width st i).sector ≡ true
    → s.layout.provided ≤ (entry_of s.layout.width st i).sector → (step_of (in_phase s (WritingBack i 2)) v st).answer ≡ refuse 6 (i ∷ [])
unfolding step_of
step-beyond s v st i a b c x l =
    let three : 2 < home_count s.layout (entry_of s.layout.width st i) = omega (arith, home-in-two s.layout (entry_of s.layout.width st i) x) in
    let staged : staged_ok (in_phase s (WritingBack i 2)) st ≡ true =
    staged-in (in_phase s (WritingBack i 2)) st (WritingBack i 2) refl c (lt-ltb 2 (home_count s.layout (entry_of s.layout.width st i)) three) in
    rw (a, b, staged, le-leb s.layout.provided (entry_of s.layout.width st i).sector l)

-- no state has a fourth
unsound-fourth : (s : State) (i : ℕ) → state_ok (in_phase s (WritingBack i 3)) ≡ false
unfolding state_ok
unsound-fourth s i =
    and-false (layout_ok s.layout) (leb s.count (entry_count s.layout.width)) (not (eqb s.id 0) && (ltb i s.count && false))
    (and-false (not (eqb s.id 0)) (ltb i s.count) false refl)

pub third-store : (tags : Tags) → ThirdStore tags
third-store tags =
    record {
      write = λ s st n bytes i.
          write-says tags (in_phase s (WritingBack i 2)) st n bytes refl
          ∙ ap (λ (b : Bool). pick (b && (staging_ok s.layout st && sector_ok bytes)) (refuse 9 []) (refuse 1 [])) (sound-third s i)
          ∙ sym (write-says tags (in_phase s (WritingBack i 0)) st n bytes refl);
      flush = λ s i.
          flush-says (in_phase s (WritingBack i 2)) refl
          ∙ ap (λ (b : Bool). pick b (refuse 9 []) (refuse 1 [])) (sound-third s i) ∙ sym (flush-says (in_phase s (WritingBack i 0)) refl);
      step = λ s v st i alone. step-refused s v st i alone;
      next = λ s v st out i alone. next-refused s v st i alone out;
      read = λ s v st n loan i alone. read-refused s v st i alone tags n loan;
      beyond = step-beyond;
      fourth-write = λ s st n bytes i. (malformed-first tags).write (in_phase s (WritingBack i 3)) st n bytes (rw (unsound-fourth s i));
      fourth-flush = λ s i. (malformed-first tags).flush (in_phase s (WritingBack i 3)) (unsound-fourth s i);
      fourth-step = λ s v st i. (malformed-first tags).step (in_phase s (WritingBack i 3)) v st (rw (unsound-fourth s i));
      fourth-read = λ s v st n loan i. (malformed-first tags).read (in_phase s (WritingBack i 3)) v st n loan (rw (unsound-fourth s i));
    }
