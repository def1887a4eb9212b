-- Uses of the top statements, each at an instance that only the whole statement gives: so that a statement which is made weaker, and is then still
-- proved, is refused here.
use Prim.Native.Nat.{ℕ, ◌+◌, ◌-◌, ◌*◌, ◌^◌, ◌≤◌, ◌<◌}
use mathlib.Core.Bool.{true, false, ◌&&◌}
use mathlib.Core.Logic.{◌≢◌, ◌⊎◌}
use mathlib.Core.List.{List, [], ◌∷◌, ◌++◌}
use mathlib.Core.Path.{◌≡◌, refl, sym, ap, ◌∙◌}
use native.Mathlib.Omega.{arith}
use lib.Dec.{leb, eqb}
use lib.ListN.{length, get_or, drop, replicate, length-append, length-replicate}
use Rattle.octets.specs.Answer.{taken, refuse, is_taken, number_in}
use Rattle.octets.specs.Parts.{patch}
use Rattle.octets.specs.Sectors.{sector_at}
use Rattle.hmac.specs.Hmac.{key_ok}
use Rattle.on_disk.specs.declared.Layout.{Layout}
use Rattle.model.specs.declared.Phase.TheVariants.{WritingBack}
use Rattle.model.specs.declared.State.{State}
use Rattle.on_disk.specs.Layout.{section_size, data_at, tag_byte, tag_sector, crosses, needed, layout_ok}
use Rattle.on_disk.specs.Section.{Entry, entry_of, empty_section}
use Rattle.model.specs.Journal.{whole_id, used_of}
use Rattle.model.specs.Tag.{Tags, TagsOf, tag_of, hmac_tag_of, tag_at}
use Rattle.model.specs.Store.{home_count, homes_made}
use Rattle.model.specs.State.{passed, volume_loan_ok, state_ok, volume_ok, staging_ok, in_phase}
use Rattle.model.specs.NextStore.{next_store_of}
use Rattle.model.specs.Flush.{flush_of}
use Rattle.model.specs.Format.{FormatResult, format_of}
use Rattle.model.specs.Open.{open_of}
use Rattle.model.specs.Write.{write_of}
use Rattle.model.specs.Step.{step_of}
use Rattle.model.specs.Read.{read_of}
use Rattle.model.specs.Keyed.{format_keyed_of, open_keyed_of, write_keyed_of, read_keyed_of, key_refusal}
use Rattle.model.specs.Ledger.{Ledger, last_for, enters_next}
use Rattle.model.specs.Medium.{volume_in}
use Rattle.model.specs.World.{Event, setting_of, an_open, a_step, off, on, World, after}
use Rattle.model.specs.Demand3.{world_after, ledger_after}
use Rattle.model.specs.StepResult.{step_acknowledges}
use Rattle.model.specs.Guarantees.{Outside}
use Rattle.model.specs.ReadBack.{AllSized, put_batch, sealed_section, numbered}
use Rattle.octets.proofs.Parts.{drop_past}
use Rattle.on_disk.proofs.Addresses.{ranged}
use Rattle.on_disk.proofs.Sections.{per_pos}
use Rattle.model.proofs.Demand3.{demand3, demand3-hmac}
use Rattle.model.proofs.Keyed.{keyed-calls}
use Rattle.model.proofs.WrongKey.{wrong-key}
use Rattle.model.proofs.Guarantees.{guaranteed}
use Rattle.model.proofs.ReadBack.{read_back}
use Rattle.model.proofs.Reserved.{reserved-unread}
use Rattle.model.proofs.TagStores.{brings-home, tag-by-its-sectors, third-store}

-- ---- demand 3 and what holds beside it: any tag functions, layout and volume, and a list of events that ends in any way

module _ (tags : Tags) (g : Layout) (sized : TagsOf tags g.width) (v : List ℕ)
    (formatted : (format_of tags g v).answer ≡ passed) (es : List Event) where
  abbrev world : World
  world = world_after tags g v es

  abbrev told : Ledger
  told = ledger_after tags g v es

  abbrev volume : List ℕ
  volume = volume_in world.medium

  abbrev fresh : List ℕ
  fresh = (format_of tags g v).volume

  module _ (settled : world.settled ≡ true) where
    -- the last sector, its tag, and a read of it into a loan of any bytes
    last-home : 0 < g.provided → sector_at volume (data_at g (g.provided - 1)) ≡ told.contents (g.provided - 1)
    last-home p = (demand3 tags g sized v formatted es settled).home (g.provided - 1) (omega arith)

    last_fits : 0 < g.provided → tag_at g volume (g.provided - 1) ≡ tags g.width (g.provided - 1) (told.contents (g.provided - 1))
    last_fits p = (demand3 tags g sized v formatted es settled).fits (g.provided - 1) (omega arith)

    last-read : 0 < g.provided → (s : State) (st loan : List ℕ) → world.live ≡ on s st → length loan ≡ 512
        → read_of tags s volume st (g.provided - 1) loan
        ≡ record { answer = taken tt; sector = last_for told.batch (g.provided - 1) (told.contents (g.provided - 1)) }
    last-read p s st loan e l = (demand3 tags g sized v formatted es settled).reads s st loan (g.provided - 1) e l (omega arith)

    -- the first byte, reserved or not, and the superblock's last
    first-kept : get_or volume 0 0 ≡ get_or fresh 0 0
    first-kept = (demand3 tags g sized v formatted es settled).kept 0 (omega arith)

    superblock-kept : get_or volume (g.reserved * 512 + 4095) 0 ≡ get_or fresh (g.reserved * 512 + 4095) 0
    superblock-kept = (demand3 tags g sized v formatted es settled).kept (g.reserved * 512 + 4095) (omega arith)

  -- an open with any bytes in staging
  any-opens : (b : ℕ) → world.live ≡ off → (st : List ℕ) → length st ≡ section_size g.width * 512
      → is_taken (open_of tags g.reserved volume st).answer ≡ true
  any-opens b e st l = (guaranteed tags g sized v formatted es).opens st e l

  any-steps : (s : State) (st : List ℕ) → world.live ≡ on s st → is_taken (step_of s volume st).answer ≡ true
  any-steps s st e = (guaranteed tags g sized v formatted es).steps s st e

  any-acknowledges : (s : State) (st : List ℕ) → world.live ≡ on s st → step_acknowledges (step_of s volume st).answer ≡ enters_next told
  any-acknowledges s st e = (guaranteed tags g sized v formatted es).acknowledged s st e

  -- open's number exactly: settled after n steps, and not after n − 1
  counts_all : (st : List ℕ) (s : State) (n : ℕ) → world.live ≡ off → (open_of tags g.reserved volume st).answer ≡ taken (s, n)
      → (after (setting_of tags g) world (an_open st ∷ replicate n a_step)).settled ≡ eqb n n
  counts_all st s n e o = (guaranteed tags g sized v formatted es).counts st s n e o n (omega arith)

  counts-none : (st : List ℕ) (s : State) (n : ℕ) → world.live ≡ off → (open_of tags g.reserved volume st).answer ≡ taken (s, n)
      → (after (setting_of tags g) world (an_open st ∷ replicate 0 a_step)).settled ≡ eqb 0 n
  counts-none st s n e o = (guaranteed tags g sized v formatted es).counts st s n e o 0 (omega arith)

  -- any byte that is no journal's, data's or tag's, and any sector behind the last run
  byte-kept : (b : ℕ) → Outside g b → get_or volume b 0 ≡ get_or fresh b 0
  byte-kept b o = (guaranteed tags g sized v formatted es).untouched b o

  sector-behind : sector_at volume (needed g) ≡ sector_at fresh (needed g)
  sector-behind = (guaranteed tags g sized v formatted es).behind (needed g) (omega arith)

-- ---- a batch is read back: none, and a sector and an id near 2^64

abbrev highest : ℕ → Entry
highest t = record { sector = 2 ^ 64 - 2; bytes = replicate 512 255; tag = replicate t 255 }

no-batch : (g : Layout) → layout_ok g ≡ true → (k n : ℕ) → n ≢ 0 → n < 2 ^ 64 → used_of g.width k (sealed_section g (empty_section g.width) n) ≡ []
no-batch g ok k n z h = (read_back g ok [] (omega arith) tt k n z h).1

high-batch : (g : Layout) → layout_ok g ≡ true
    → (whole_id g.width (sealed_section g (put_batch g.width (empty_section g.width) 0 (highest g.width ∷ [])) (2 ^ 64 - 1)) ≡ 2 ^ 64 - 1)
    × (used_of g.width 63 (sealed_section g (put_batch g.width (empty_section g.width) 0 (highest g.width ∷ [])) (2 ^ 64 - 1)) ≡ numbered 63 0 (highest g.width ∷ []))
high-batch g ok =
    let sized : AllSized g.width (highest g.width ∷ []) =
    (record { sector = omega arith; bytes = length-replicate {A = ℕ} 512 255; tag = length-replicate {A = ℕ} g.width 255 }, tt) in
    read_back g ok (highest g.width ∷ []) (omega (arith, per_pos g.width (omega (arith, (ranged g ok).t.bound)))) sized 63 (2 ^ 64 - 1) (λ z. omega (arith, z)) (omega arith)

-- ---- with 64 reserved sectors, all of them other bytes

other-reserved : (tags : Tags) (x y rest st : List ℕ) → length x ≡ 64 * 512 → length y ≡ 64 * 512 → open_of tags 64 (x ++ rest) st ≡ open_of tags 64 (y ++ rest) st
other-reserved tags x y rest st lx ly =
    (reserved-unread tags 64 (x ++ rest) (y ++ rest) (length-append x rest ∙ omega arith ∙ sym (length-append y rest), behind x lx ∙ sym (behind y ly))).opens st
  where
    behind : (z : List ℕ) → length z ≡ 64 * 512 → drop (64 * 512) (z ++ rest) ≡ rest
    behind z l =
        let none : 64 * 512 - length z ≡ 0 = omega arith in
        drop_past z rest (64 * 512) (omega arith) ∙ ap (λ (n : ℕ). drop n rest) none

-- ---- the calls with a key: of one byte and of 256, of none and of 257

sized-ok : (n b : ℕ) → key_ok (replicate n b) ≡ (leb 1 n && leb n 256)
sized-ok n b = ap (λ (k : ℕ). leb 1 k && leb k 256) (length-replicate {A = ℕ} n b)

module _ (b : ℕ) (g : Layout) (s : State) (v st : List ℕ) (r n : ℕ) (bytes : List ℕ) where
  shortest-key : write_keyed_of (b ∷ []) s st n bytes ≡ write_of (hmac_tag_of (b ∷ [])) s st n bytes
  shortest-key = (keyed-calls.taken (b ∷ []) refl).write s st n bytes

  longest-key : read_keyed_of (replicate 256 b) s v st n bytes ≡ read_of (hmac_tag_of (replicate 256 b)) s v st n bytes
  longest-key = (keyed-calls.taken (replicate 256 b) (sized-ok 256 b)).read s v st n bytes

  no_key : open_keyed_of [] r v st ≡ record { answer = key_refusal (volume_loan_ok v); staging = st }
  no_key = (keyed-calls.refused [] refl).opening r v st

  too-long-key : format_keyed_of (replicate 257 b) g v ≡ record { answer = key_refusal (volume_loan_ok v); volume = v }
  too-long-key = (keyed-calls.refused (replicate 257 b) (sized-ok 257 b)).format g v

  -- a volume with keyed tags, read without the key
  missing-key : is_taken (read_of (hmac_tag_of (b ∷ [])) s v st n bytes).answer ≡ true
      → (read_of tag_of s v st n bytes ≡ read_of (hmac_tag_of (b ∷ [])) s v st n bytes)
      ⊎ ((number_in (read_of tag_of s v st n bytes).answer ≡ 7) × ((read_of tag_of s v st n bytes).sector ≡ bytes))
  missing-key = (wrong-key (hmac_tag_of (b ∷ [])) tag_of).read_shows s v st n bytes

-- demand 3 for any key, by the format with it
keyed-home : (key : List ℕ) → key_ok key ≡ true → (g : Layout) (v : List ℕ) → (format_keyed_of key g v).answer ≡ passed → (es : List Event)
    → (world_after (hmac_tag_of key) g v es).settled ≡ true
    → (n : ℕ) → n < g.provided → sector_at (volume_in (world_after (hmac_tag_of key) g v es).medium) (data_at g n) ≡ (ledger_after (hmac_tag_of key) g v es).contents n
keyed-home key ok g v e es q = (demand3-hmac key g v (sym (ap (λ (o : FormatResult). o.answer) ((keyed-calls.taken key ok).format g v)) ∙ e) es q).home

-- ---- the stores of a tag: the last sector that the volume provides, the greatest number, the last entry of a batch

last-comes-home : (g : Layout) → layout_ok g ≡ true → 0 < g.provided → (v : List ℕ) → needed g * 512 ≤ length v
    → (e : Entry) → e.sector ≡ g.provided - 1 → length e.bytes ≡ 512 → length e.tag ≡ g.width
    → homes_made g v e (home_count g e) ≡ patch (patch v (data_at g e.sector * 512) e.bytes) (tag_byte g e.sector) e.tag
last-comes-home g ok l v room e q whole sized = brings-home g ok v room e (omega arith) whole sized

greatest-by-its-sectors : (g : Layout) → layout_ok g ≡ true → (v w : List ℕ) → length v ≡ length w
    → sector_at v (tag_sector g (2 ^ 64 - 1)) ≡ sector_at w (tag_sector g (2 ^ 64 - 1))
    → (crosses g (2 ^ 64 - 1) ≡ true → sector_at v (tag_sector g (2 ^ 64 - 1) + 1) ≡ sector_at w (tag_sector g (2 ^ 64 - 1) + 1))
    → tag_at g v (2 ^ 64 - 1) ≡ tag_at g w (2 ^ 64 - 1)
greatest-by-its-sectors g ok v w e p q = tag-by-its-sectors g ok v w e (2 ^ 64 - 1) p q

module _ (tags : Tags) (s : State) (v st : List ℕ) where
  abbrev third : State
  third = in_phase s (WritingBack (s.count - 1) 2)

  abbrev fourth : State
  fourth = in_phase s (WritingBack (s.count - 1) 3)

  third-written : (write_of tags third st (2 ^ 64 - 1) []).answer ≡ (write_of tags (in_phase s (WritingBack (s.count - 1) 0)) st (2 ^ 64 - 1) []).answer
  third-written = (third-store tags).write s st (2 ^ 64 - 1) [] (s.count - 1)

  third-flushed : (flush_of third).answer ≡ (flush_of (in_phase s (WritingBack (s.count - 1) 0))).answer
  third-flushed = (third-store tags).flush s (s.count - 1)

  module _ (alone : crosses s.layout (entry_of s.layout.width st (s.count - 1)).sector ≡ false) where
    third-told : (next_store_of third v st []).answer ≡ refuse 1 []
    third-told = (third-store tags).next s v st [] (s.count - 1) alone

    third-read : (read_of tags third v st (2 ^ 64 - 1) []).answer ≡ refuse 1 []
    third-read = (third-store tags).read s v st (2 ^ 64 - 1) [] (s.count - 1) alone

  first-beyond : state_ok third ≡ true → volume_ok third v ≡ true → staging_ok s.layout st ≡ true
      → crosses s.layout (entry_of s.layout.width st (s.count - 1)).sector ≡ true
      → (entry_of s.layout.width st (s.count - 1)).sector ≡ s.layout.provided → (step_of third v st).answer ≡ refuse 6 ((s.count - 1) ∷ [])
  first-beyond a b c x l = (third-store tags).beyond s v st (s.count - 1) a b c x (omega arith)

  fourth-refused : ((write_of tags fourth st 0 []).answer ≡ refuse 1 []) × ((flush_of fourth).answer ≡ refuse 1 [])
      × ((step_of fourth v st).answer ≡ refuse 1 []) × ((read_of tags fourth v st 0 []).answer ≡ refuse 1 [])
  fourth-refused = (
    (third-store tags).fourth-write s st 0 [] (s.count - 1),
    (third-store tags).fourth-flush s (s.count - 1),
    (third-store tags).fourth-step s v st (s.count - 1),
    (third-store tags).fourth-read s v st 0 [] (s.count - 1),
  )

third-of-last : (tags : Tags) (s : State) (v st : List ℕ) → crosses s.layout (entry_of s.layout.width st (s.count - 1)).sector ≡ false
    → (step_of (in_phase s (WritingBack (s.count - 1) 2)) v st).answer ≡ refuse 1 []
third-of-last tags s v st alone = (third-store tags).step s v st (s.count - 1) alone
