-- What each function leaves in the sector it fills, over plain lists.
use Prim.Native.Nat.{ℕ, zero, suc, ◌+◌, ◌-◌, ◌*◌, ◌/◌, ◌%◌, ◌≤◌, ◌<◌}
use mathlib.Core.Bool.{true}
use mathlib.Core.List.{List, ◌++◌}
use mathlib.Core.Logic.{◌≢◌}
use mathlib.Core.Path.{◌≡◌, refl, sym, ap, ◌∙◌, subst}
use native.Mathlib.Omega.{arith}
use lib.ListN.{length, take, drop, length-append, length-drop}
use lib.Seq.{take_all, take-take}
use borrow.Author.Tests.{eq-eqb, ne_eqb, lt-ltb, le-ltb}
use Rattle.octets.specs.Numbers.{le}
use Rattle.octets.specs.Parts.{part, patch}
use Rattle.octets.specs.Sectors.{sector_at, put_sector}
use Rattle.octets.proofs.Numbers.{length-le}
use Rattle.octets.proofs.Parts.{length_part, part-all, part-patch-same, patch-all, patch-join}
use Rattle.octets.proofs.Sectors.{put-inside}
use Rattle.on_disk.specs.declared.Layout.{Layout}
use Rattle.on_disk.specs.Layout.{entry_count, section_size, data_at, tag_byte, tag_sector, tag_offset, crosses, first_piece, needed, layout_ok}
use Rattle.on_disk.specs.Section.{Entry, entry_of}
use Rattle.model.specs.Journal.{sealed}
use Rattle.model.specs.Store.{home_count, home_store}
use Rattle.on_disk.proofs.Addresses.{Ranged, ranged, data-room, tag-room, next-room, tag-sector, tag-offset, not-crossing, crossing}
use Rattle.model.proofs.Plans.{Homing, in_one, in_two, homing, home-crosses}
use Rattle.on_disk.proofs.Sections.{bytes-length, tag-length}
use Rattle.layout.proofs.Sizes.{width-high}
use Rattle.stores.specs.declared.tags.TagPiece.{TagPiece}
use Rattle.stores.specs.TagPieces.{tag_piece_of}
use Rattle.stores.specs.Asked.{StoreOfEntry}
use Rattle.stores.specs.Changes.{Changes}

-- a sector of the section, filled from its front and then from its id on
module _ (g : Layout) (st out : List ℕ) (j id : ℕ) (room : (j + 1) * 512 ≤ length st) (size : length out ≡ 512) where
  pub sector-sealed : (o₁ r : List ℕ) → o₁ ≡ patch out 0 (part st (j * 512) 504) → r ≡ patch o₁ 504 (le 8 id) → r ≡ sealed g st id j
  unfolding sealed
  sector-sealed o₁ r e₁ er =
      let front : length (part st (j * 512) 504) ≡ 504 = length_part st (j * 512) 504 (omega arith) in
      let eight : length (le 8 id) ≡ 8 = length-le 8 id in
      let p : 504 ≡ 0 + length (part st (j * 512) 504) = omega arith in
      let cut : part st (j * 512) 504 ≡ take 504 (sector_at st j) = sym (take-take 504 512 (drop (j * 512) st) (omega arith)) in
      er ∙ ap (λ (x : List ℕ). patch x 504 (le 8 id)) e₁
      ∙ ap (λ (n : ℕ). patch (patch out 0 (part st (j * 512) 504)) n (le 8 id)) p
      ∙ patch-join out 0 (part st (j * 512) 504) (le 8 id) (omega arith)
      ∙ patch-all out (part st (j * 512) 504 ++ le 8 id) (length-append (part st (j * 512) 504) (le 8 id) ∙ omega arith)
      ∙ ap (λ (x : List ℕ). x ++ le 8 id) cut

-- ---- a tag

-- the parts of a tag, as the code computes them
module _ (g : Layout) (ok : layout_ok g ≡ true) (n b : ℕ) (eb : b ≡ tag_byte g n) where
  pub first-size : 512 - b % 512 ≡ first_piece g n
  first-size = omega (arith, tag-sector g (ranged g ok) n, tag-offset g (ranged g ok) n)

  pub part-behind-first : (h : ℕ) → h ≢ 1 → record { from = 512 - b % 512; byte = b + (512 - b % 512); size = g.width - (512 - b % 512) } ≡ tag_piece_of g n h
  part-behind-first h k = rw (ne_eqb h 1 k, first-size, eb)

  pub part_to_end : (h : ℕ) → h ≡ 1 → 512 - b % 512 < g.width → record { from = 0; byte = b; size = 512 - b % 512 } ≡ tag_piece_of g n h
  part_to_end h k l =
      rw (eq-eqb h 1 k, lt-ltb 512 (tag_offset g n + g.width) (omega (arith, first-size, tag-offset g (ranged g ok) n)), first-size, eb)

  pub part-whole : (h : ℕ) → h ≡ 1 → g.width ≤ 512 - b % 512 → record { from = 0; byte = b; size = g.width } ≡ tag_piece_of g n h
  part-whole h k l =
      rw (eq-eqb h 1 k, le-ltb 512 (tag_offset g n + g.width) (omega (arith, first-size, tag-offset g (ranged g ok) n)), eb)

-- a sector filled from the volume, and some bytes of it replaced
pub part-replaced : (v : List ℕ) (a off : ℕ) (x out o₁ r : List ℕ) → (a + 1) * 512 ≤ length v → length out ≡ 512
    → o₁ ≡ patch out 0 (part v (a * 512) 512) → r ≡ patch o₁ off x → r ≡ patch (sector_at v a) off x
part-replaced v a off x out o₁ r room size e₁ er =
    er ∙ ap (λ (y : List ℕ). patch y off x) (e₁ ∙ patch-all out (part v (a * 512) 512) (length_part v (a * 512) 512 (omega arith) ∙ sym size))

-- what is used of a part of the tag of e, for store h
pub record TagPieceFor (g : Layout) (v : List ℕ) (e : Entry) (h : ℕ) (r : TagPiece) : Type 0 where
  pub room : (r.byte / 512 + 1) * 512 ≤ needed g * 512
  pub inside : r.byte % 512 + r.size ≤ 512
  pub within : r.from + r.size ≤ g.width
  pub sector : r.byte / 512 ≡ (home_store g v e h).at
  pub content : patch (sector_at v (r.byte / 512)) (r.byte % 512) (part e.tag r.from r.size) ≡ (home_store g v e h).content

module _ (g : Layout) (ok : layout_ok g ≡ true) (v : List ℕ) (e : Entry) (low : e.sector < g.provided) (sized : length e.tag ≡ g.width) where
  abbrev n : ℕ
  n = e.sector

  R : Ranged g
  R = ranged g ok

  -- where the tag begins
  begins-sector : tag_byte g n / 512 ≡ tag_sector g n
  begins-sector = omega (arith, tag-sector g R n, tag-offset g R n)

  begins-offset : tag_byte g n % 512 ≡ tag_offset g n
  begins-offset = omega (arith, tag-sector g R n, tag-offset g R n)

  -- and where it goes on
  goes-on-sector : (tag_byte g n + first_piece g n) / 512 ≡ tag_sector g n + 1
  goes-on-sector = omega (arith, tag-sector g R n, tag-offset g R n)

  goes-on-offset : (tag_byte g n + first_piece g n) % 512 ≡ 0
  goes-on-offset = omega (arith, tag-sector g R n, tag-offset g R n)

  first_part : (size : ℕ) → size + tag_offset g n ≤ 512 → size ≤ g.width → part e.tag 0 size ≡ take (first_piece g n) e.tag
      → TagPieceFor g v e 1 (record { from = 0; byte = tag_byte g n; size = size })
  first_part size fits small is =
      record {
        room = omega (arith, begins-sector, tag-room g R n low);
        inside = omega (arith, begins-offset);
        within = omega arith;
        sector = begins-sector;
        content = λ i. patch (sector_at v (begins-sector i)) (begins-offset i) (is i);
      }

  rest_part : (h : ℕ) → crosses g n ≡ true
      → TagPieceFor g v e (suc (suc h)) (record { from = first_piece g n; byte = tag_byte g n + first_piece g n; size = g.width - first_piece g n })
  rest_part h c =
      let rest : part e.tag (first_piece g n) (g.width - first_piece g n) ≡ drop (first_piece g n) e.tag =
      take_all (g.width - first_piece g n) (drop (first_piece g n) e.tag) (omega (arith, length-drop (first_piece g n) e.tag)) in
      record {
        room = omega (arith, goes-on-sector, next-room g R n low c);
        inside = omega (arith, goes-on-offset, width-high g ok);
        within = omega (arith, crossing g R n c, tag-offset g R n);
        sector = goes-on-sector;
        content = λ i. patch (sector_at v (goes-on-sector i)) (goes-on-offset i) (rest i);
      }

  pub tag-piece-for : (h : ℕ) → h ≢ 0 → h < home_count g e → TagPieceFor g v e h (tag_piece_of g n h)
  tag-piece-for zero z l = absurd (z refl)
  tag-piece-for (suc zero) z l = go (homing g e)
    where
      go : Homing g e → TagPieceFor g v e 1 (tag_piece_of g n 1)
      go (in_one c m) =
          let fits = not-crossing g R n c in
          rw c (first_part g.width (omega arith) (omega arith)
          (part-all e.tag g.width sized ∙ sym (take_all (first_piece g n) e.tag (omega arith))))
      go (in_two c m) = rw c (first_part (first_piece g n) (omega (arith, tag-offset g R n)) (omega (arith, crossing g R n c, tag-offset g R n)) refl)
  tag-piece-for (suc (suc h)) z l = rw (ne_eqb (suc (suc h)) 1 (λ q. omega arith)) (rest_part h (home-crosses g e (omega arith)))

-- the part of the tag that is stored, as the code finds it
module _ (g : Layout) (sec : List ℕ) (i n h : ℕ) (asked : StoreOfEntry g sec i n h) (some : h ≢ 0) where
  pub goes_on : h ≢ 1 → crosses g n ≡ true
  goes_on k = ap (crosses g) asked.is ∙ home-crosses g (entry_of g.width sec i) (omega (arith, asked.store))

  pub part-found : (v : List ℕ) (p : TagPiece) → p ≡ tag_piece_of g n h → TagPieceFor g v (entry_of g.width sec i) h p
  part-found v p q =
      subst (TagPieceFor g v (entry_of g.width sec i) h) (sym (q ∙ ap (λ (x : ℕ). tag_piece_of g x h) asked.is))
      (tag-piece-for g asked.layout v (entry_of g.width sec i) (omega (arith, asked.is, asked.low))
      (tag-length g.width i (width-high g asked.layout) asked.entry sec asked.long) h some asked.store)

-- the stores that bring an entry home
module _ (g : Layout) (v : List ℕ) (e : Entry) (n : ℕ) (en : n ≡ e.sector) (h a : ℕ) (c : List ℕ) where
  pub data-filled : 0 ≡ h → a ≡ data_at g n → c ≡ e.bytes → record { at = a; content = c } ≡ home_store g v e h
  data-filled z ea ec = rw (← z) (λ i. record { at = (ea ∙ ap (data_at g) en) i; content = ec i })

  -- some bytes of the tag, put in the sector of the volume
  pub tag-filled : (p : TagPiece) → TagPieceFor g v e h p → (t : List ℕ) → t ≡ e.tag → a ≡ p.byte / 512
      → c ≡ patch (sector_at v (p.byte / 512)) (p.byte % 512) (part t p.from p.size) → record { at = a; content = c } ≡ home_store g v e h
  tag-filled p is t et ea ec =
      λ i. record {
        at = (ea ∙ is.sector) i;
        content = (ec ∙ ap (λ (x : List ℕ). patch (sector_at v (p.byte / 512)) (p.byte % 512) (part x p.from p.size)) et ∙ is.content) i;
      }

-- the bytes that these stores change
module _ (g : Layout) (ok : layout_ok g ≡ true) (sec : List ℕ) (size : length sec ≡ section_size g.width * 512) (i : ℕ) (l : i < entry_count g.width)
    (n : ℕ) (en : n ≡ (entry_of g.width sec i).sector) (low : n < g.provided) (h : ℕ) (c v : List ℕ) (room : needed g * 512 ≤ length v) where
  abbrev e : Entry
  e = entry_of g.width sec i

  whole : length e.bytes ≡ 512
  whole = bytes-length g.width i (width-high g ok) l sec size

  sized : length e.tag ≡ g.width
  sized = tag-length g.width i (width-high g ok) l sec size

  pub data-changed : 0 ≡ h → (a : ℕ) → a ≡ data_at g n → c ≡ e.bytes → Changes v (home_store g v e h) (record { byte = a * 512; size = 512 }) c
  data-changed z a ea ec =
      let there : a ≡ data_at g e.sector = ea ∙ ap (data_at g) en in
      let front : part c 0 512 ≡ e.bytes = part-all c 512 (ap length ec ∙ whole) ∙ ec in
      rw (← z)
      (record {
        sector = div-mul a ∙ there;
        fits = omega arith;
        inside = omega (arith, ea, data-room g (ranged g ok) n low);
        stored = λ k. patch v (there k * 512) (front k);
      })
    where
      div-mul : (a : ℕ) → a * 512 / 512 ≡ a
      div-mul a = omega arith

  pub tag-changed : (p : TagPiece) → TagPieceFor g v e h p → (t out : List ℕ) → t ≡ e.tag → length out ≡ 512 → c ≡ patch out 0 (part t p.from p.size)
      → Changes v (home_store g v e h) (record { byte = p.byte; size = p.size }) c
  tag-changed p is t out et full ec =
      let long : length (part e.tag p.from p.size) ≡ p.size = length_part e.tag p.from p.size (omega (arith, is.within, sized)) in
      let front : part c 0 p.size ≡ part e.tag p.from p.size =
      ap (λ (x : List ℕ). part x 0 p.size) (ec ∙ ap (λ (x : List ℕ). patch out 0 (part x p.from p.size)) et)
      ∙ part-patch-same out 0 (part e.tag p.from p.size) (omega (arith, is.inside)) p.size (sym long) in
      let whole-byte : p.byte / 512 * 512 + p.byte % 512 ≡ p.byte = omega arith in
      record {
        sector = is.sector;
        fits = omega (arith, is.inside);
        inside = omega (arith, is.room, is.inside, room);
        stored =
            ap (patch v p.byte) front ∙ ap (λ (x : ℕ). patch v x (part e.tag p.from p.size)) (sym whole-byte)
            ∙ sym (put-inside v (p.byte / 512) (p.byte % 512) (part e.tag p.from p.size) (omega (arith, is.inside, long)) (omega (arith, is.room, room)))
            ∙ (λ i. put_sector v (is.sector i) (is.content i));
      }
