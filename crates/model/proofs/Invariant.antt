-- The invariant of demand 3: what holds of the volume at every cut (Disk), and of state and staging while the supply holds (Lives).
use Prim.Native.Nat.{ℕ, zero, suc, ◌+◌, ◌-◌, ◌*◌, ◌%◌, ◌^◌, ◌≤◌, ◌<◌}
use mathlib.Core.Bool.{true}
use mathlib.Core.Path.{◌≡◌, sym, ap, ◌∙◌, subst}
use mathlib.Core.Logic.{◌≢◌, inl}
use mathlib.Core.List.{List, [], ◌∷◌}
use native.Mathlib.Omega.{arith}
use lib.ListN.{length, take, get_or}
use Rattle.octets.specs.Parts.{part}
use Rattle.octets.specs.Sectors.{sector_at}
use Rattle.on_disk.specs.Superblock.{superblock_of, superblock_at}
use Rattle.on_disk.specs.Layout.{per_sector, layout_ok, entry_count, section_size, section_at, data_at, tag_byte, crosses, first_piece, needed}
use Rattle.on_disk.specs.Section.{Entry, unused, entry_of}
use Rattle.model.specs.Journal.{sealed, section_of, greatest_id, whole_ids, used_of, replay}
use Rattle.model.specs.Tag.{Tag, tag_at}
use Rattle.model.specs.Store.{home_store, made, home_count}
use Rattle.model.specs.State.{volume_loan_ok}
use Rattle.model.proofs.Plans.{At, Homing, in_one, in_two, homing, home-in-two, home-most, home_some, home-crosses}
use Rattle.model.specs.Ledger.{Write, Contents, Ledger}
use Rattle.model.specs.Medium.{Medium, volume_in}
use Rattle.model.specs.World.{Live, off, on}
use Rattle.model.proofs.Replays.{mentions, Clean, Durable, Pass, Midway, touch, no_write, pass-begins, mid-touch, mid-ends, Frame}
use Rattle.model.proofs.Journals.{every-replay, Every, writes, write_of_entry, batch_of, front, sections-kept, top_kept, ids-kept, replay-kept}
use Rattle.on_disk.proofs.Addresses.{Ranged, data-high, tag-high, tag-sector}
use Rattle.model.proofs.Volumes.{part_bytes}
use Rattle.model.specs.Guarantees.{Outside}
use Rattle.model.proofs.Homes.{Home, home-length, home-outside, home-frame, home-data, data-stays, first-stands, tag-in-one, tag-in-two, home-front}
use Rattle.on_disk.specs.declared.Layout.{Layout}
use Rattle.model.specs.declared.Phase.{Phase}
use Rattle.model.specs.declared.Phase.TheVariants.{Filling, Committing, WritingBack, Recovering}
use Rattle.model.specs.declared.State.{State}

abbrev pub state_at : Layout → ℕ → ℕ → Phase → State
state_at g n m p = record { layout = g; phase = p; count = n; id = m }

-- what holds of the layout, the tag function and the volume at the start
pub record Premises (tag : Tag) (g : Layout) (v₀ : List ℕ) : Type 0 where
  pub layout : layout_ok g ≡ true
  pub ranged : Ranged g
  -- a metadata sector has room for an entry
  pub some : 0 < per_sector g.width
  pub tags : (s : ℕ) (b : List ℕ) → length (tag s b) ≡ g.width
  pub loan : volume_loan_ok v₀ ≡ true
  pub room : needed g * 512 ≤ length v₀
  pub super : superblock_at g.reserved v₀ ≡ superblock_of g
  -- the sectors of the volume
  pub sectors : ℕ
  pub whole : length v₀ ≡ sectors * 512

pub record Good (tag : Tag) (g : Layout) (e : Entry) : Type 0 where
  pub low : e.sector < g.provided
  pub whole : length e.bytes ≡ 512
  pub fit : e.tag ≡ tag e.sector e.bytes

-- what holds of a whole section k under id n
pub record GoodSection (tag : Tag) (g : Layout) (k n : ℕ) (sec : List ℕ) : Type 0 where
  pub entries : Every (λ x. Good tag g x.entry) (used_of g.width k sec)

module _ (tag : Tag) (g : Layout) (v₀ : List ℕ) where
  -- at every cut
  pub record Disk (v : List ℕ) (c : Contents) : Type 0 where
    pub sized : length v ≡ length v₀
    pub kept : (b : ℕ) → Outside g b → get_or v b 0 ≡ get_or v₀ b 0
    pub places : (k : ℕ) → k < g.sections → whole_ids g v k ≢ 0 → (whole_ids g v k - 1) % g.sections ≡ k
    pub window : (k : ℕ) → k < g.sections → whole_ids g v k ≢ 0 → greatest_id g v < whole_ids g v k + g.sections
    pub top : greatest_id g v < 2 ^ 64 - 1
    pub goods : (k : ℕ) → k < g.sections → whole_ids g v k ≢ 0 → GoodSection tag g k (whole_ids g v k) (section_of g v k)
    pub durable : Durable g.provided (Home g tag v) (writes (replay g v)) c

  -- staging: n good entries, the others unused
  pub record Staged (st : List ℕ) (n : ℕ) : Type 0 where
    pub size : length st ≡ section_size g.width * 512
    pub count : n ≤ entry_count g.width
    pub goods : (i : ℕ) → i < n → Good tag g (entry_of g.width st i)
    pub free : (i : ℕ) → n ≤ i → i < entry_count g.width → (entry_of g.width st i).sector ≡ unused

  pub record AtFilling (v : List ℕ) (l : Ledger) (n m : ℕ) (st : List ℕ) : Type 0 where
    pub staged : Staged st n
    pub batch : batch_of g.width st n ≡ l.batch
    pub to_come : l.to_come ≡ []
    pub next : m ≡ greatest_id g v + 1
    pub clean : Clean g.provided (Home g tag v) l.contents

  abbrev pub slot : ℕ → ℕ
  slot m = section_at g ((m - 1) % g.sections)

  pub data Landed (u st : List ℕ) (m j i : ℕ) (x : List ℕ) : Type 0 where
    new : i < j → x ≡ sealed g st m i → Landed u st m j i x
    old : x ≡ sector_at u (slot m + i) → Landed u st m j i x

  -- y is u but for sectors of the section for id m, of which any of the first j are as the commit stores them
  pub record Torn (u st : List ℕ) (m j : ℕ) (y : List ℕ) : Type 0 where
    pub long : length y ≡ length u
    pub other : (a : ℕ) → ((i : ℕ) → i < section_size g.width → a ≢ slot m + i) → sector_at y a ≡ sector_at u a
    pub each : (i : ℕ) → i < section_size g.width → Landed u st m j i (sector_at y (slot m + i))

  -- from the volume u as the flush found it, the first j sectors of the section have been made
  pub record AtCommit (v : List ℕ) (l : Ledger) (n m j : ℕ) (st : List ℕ) : Type 0 where
    pub staged : Staged st n
    pub batch : batch_of g.width st n ≡ l.batch
    pub some : 0 < n
    pub given : m < 2 ^ 64 - 1
    pub place : j ≤ section_size g.width
    pub to_come : l.to_come ≡ (section_size g.width - j) ∷ []
    pub u : List ℕ
    pub disk : Disk u l.contents
    pub clean : Clean g.provided (Home g tag u) l.contents
    pub next : m ≡ greatest_id g u + 1
    pub torn : Torn u st m j v
    pub here : (i : ℕ) → i < j → sector_at v (slot m + i) ≡ sealed g st m i

  -- i entries of L are home; with h 1 the data of the next is, too, and with h 2 the first part of its tag
  abbrev pub DataHome : List ℕ → Write → Type 0
  DataHome v x = sector_at v (data_at g x.sector) ≡ x.bytes

  abbrev pub TagBegun : List ℕ → Write → Type 0
  TagBegun v x = part v (tag_byte g x.sector) (first_piece g x.sector) ≡ take (first_piece g x.sector) (tag x.sector x.bytes)

  abbrev pub Progress : List ℕ → Contents → List Write → ℕ → ℕ → Type 0
  Progress v c L i zero = Pass g.provided (Home g tag v) c L i
  Progress v c L i (suc zero) = Midway g.provided (Home g tag v) c L i × DataHome v (get_or L i no_write)
  Progress v c L i (suc (suc h)) = Midway g.provided (Home g tag v) c L i × (DataHome v (get_or L i no_write) × TagBegun v (get_or L i no_write))

  pub record AtHome (v : List ℕ) (l : Ledger) (n m i h : ℕ) (st : List ℕ) : Type 0 where
    pub staged : Staged st n
    pub empty : l.batch ≡ []
    pub to_come : l.to_come ≡ []
    pub next : m ≡ greatest_id g v + 1
    pub place : i < n
    pub store : h < home_count g (entry_of g.width st i)
    pub within : (s : ℕ) → mentions (batch_of g.width st n) s ≡ true → mentions (writes (replay g v)) s ≡ true
    pub progress : Progress v l.contents (batch_of g.width st n) i h

  pub record AtRecover (v : List ℕ) (l : Ledger) (m k : ℕ) (st : List ℕ) : Type 0 where
    pub staged : Staged st 0
    pub empty : l.batch ≡ []
    pub to_come : l.to_come ≡ []
    pub next : m ≡ greatest_id g v + 1
    pub i : ℕ
    pub h : ℕ
    pub spot : At g (replay g v) k i h
    pub progress : Progress v l.contents (writes (replay g v)) i h

  -- in each phase, with n staged entries and the next id m
  pub data During (d : Medium) (l : Ledger) (m : ℕ) (st : List ℕ) : (n : ℕ) → Phase → Type 0 where
    in_filling : {n : ℕ} → Disk (volume_in d) l.contents → AtFilling (volume_in d) l n m st → During d l m st n Filling
    in_committing : {n j : ℕ} → j < section_size g.width → AtCommit (volume_in d) l n m j st → During d l m st n (Committing j)
    in_writing_back : {n i h : ℕ} → Disk (volume_in d) l.contents → AtHome (volume_in d) l n m i h st → During d l m st n (WritingBack i h)
    in_recovering : {k : ℕ} → Disk (volume_in d) l.contents → AtRecover (volume_in d) l m k st → During d l m st 0 (Recovering k)

  pub data Lives (d : Medium) (l : Ledger) : Live → Type 0 where
    stopped : Disk (volume_in d) l.contents → l.batch ≡ [] → l.to_come ≡ [] → Lives d l off
    working : (n m : ℕ) (p : Phase) (st : List ℕ) → During d l m st n p → Lives d l (on (state_at g n m p) st)

-- what lies before the journal is kept
pub before-journal : (g : Layout) → Ranged g → (b : ℕ) → b < (g.reserved + 8) * 512 → Outside g b
before-journal g R b h =
    record {
      journal = inl (omega arith);
      contents = λ s k. inl (omega (arith, data-high g R s));
      tags = λ s k. inl (omega (arith, tag-high g R s, tag-sector g R s));
    }

pub low-kept : (tag : Tag) (g : Layout) (v₀ : List ℕ) → Ranged g → (v : List ℕ) (c : Contents) → Disk tag g v₀ v c
    → (b m : ℕ) → b + m ≤ (g.reserved + 8) * 512 → part v b m ≡ part v₀ b m
low-kept tag g v₀ R v c D b m h = part_bytes v v₀ b m D.sized (λ i l. D.kept (b + i) (before-journal g R (b + i) (omega arith)))

-- every entry to replay is good
pub replay-goods : (tag : Tag) (g : Layout) (v₀ v : List ℕ) (c : Contents) → Disk tag g v₀ v c → Every (λ x. Good tag g x.entry) (replay g v)
replay-goods tag g v₀ v c D = every-replay g v (λ x. Good tag g x.entry) (λ k l n. (D.goods k l n).entries)

-- ---- a store that brings an entry home

module _ (tag : Tag) (g : Layout) (v₀ : List ℕ) (X : Premises tag g v₀) (v : List ℕ) (c : Contents) (D : Disk tag g v₀ v c) (e : Entry) (G : Good tag g e) where
  abbrev w : ℕ → List ℕ
  w h = made v (home_store g v e h)

  room : needed g * 512 ≤ length v
  room = rw D.sized X.room

  tagged : length e.tag ≡ g.width
  tagged = rw G.fit (X.tags e.sector e.bytes)

  fronts : (h : ℕ) → h < home_count g e → front g (w h) ≡ front g v
  fronts h l = home-front g X.ranged tag v room e G.low G.whole tagged h l

  pub replays : (h : ℕ) → h < home_count g e → replay g (w h) ≡ replay g v
  replays h l = replay-kept g (w h) v (fronts h l)

  pub tops : (h : ℕ) → h < home_count g e → greatest_id g (w h) ≡ greatest_id g v
  tops h l = top_kept g (w h) v (fronts h l)

  pub disk-home : (h : ℕ) → h < home_count g e → mentions (writes (replay g v)) e.sector ≡ true → Disk tag g v₀ (w h) c
  disk-home h l m =
      record {
        sized = home-length g X.ranged tag v room e G.low G.whole tagged h l ∙ D.sized;
        kept = λ b o. home-outside g X.ranged tag v room e G.low G.whole tagged h l b o ∙ D.kept b o;
        places = λ k q. rw (ids-kept g (w h) v (fronts h l) k q) (D.places k q);
        window = λ k q. rw (ids-kept g (w h) v (fronts h l) k q, tops h l) (D.window k q);
        top = rw (tops h l) D.top;
        goods = λ k q. rw (sections-kept g (w h) v (fronts h l) k q) (D.goods k q);
        durable = rw (replays h l) (touch g.provided e.sector (home-frame g X.ranged tag v room e G.low G.whole tagged h l) m D.durable);
      }

  frame_at : (L : List Write) (i : ℕ) → get_or L i no_write ≡ write_of_entry e → (h : ℕ) → h < home_count g e
      → Frame (Home g tag v) (Home g tag (w h)) (get_or L i no_write).sector
  frame_at L i q h l =
      subst (λ (n : ℕ). Frame (Home g tag v) (Home g tag (w h)) n) (sym (ap (λ (x : Write). x.sector) q))
      (home-frame g X.ranged tag v room e G.low G.whole tagged h l)

  -- the next store of the pass: the data,
  pub data-next : (L : List Write) (i : ℕ) → i < length L → get_or L i no_write ≡ write_of_entry e
      → Progress tag g v₀ v c L i 0 → Progress tag g v₀ (w 0) c L i 1
  data-next L i l q p = (
    mid-touch g.provided (frame_at L i q 0 (omega (arith, home_some g e))) (pass-begins g.provided l p),
    rw q (home-data g X.ranged tag v room e G.low G.whole tagged),
  )

  -- what a store of the tag leaves of the data
  data-kept : (L : List Write) (i : ℕ) → get_or L i no_write ≡ write_of_entry e → (h : ℕ) → suc h < home_count g e
      → DataHome tag g v₀ v (get_or L i no_write) → sector_at (w (suc h)) (data_at g e.sector) ≡ e.bytes
  data-kept L i q h l p = data-stays g X.ranged tag v room e G.low G.whole tagged h l ∙ (rw q at p)

  -- the first part of a tag that crosses,
  pub first_next : (L : List Write) (i : ℕ) → get_or L i no_write ≡ write_of_entry e → crosses g e.sector ≡ true
      → Progress tag g v₀ v c L i 1 → Progress tag g v₀ (w 1) c L i 2
  first_next L i q x p = (
    mid-touch g.provided (frame_at L i q 1 (home_some g e)) p.0,
    (
      rw q (data-kept L i q 0 (home_some g e) p.1),
      rw (q, ← G.fit) (first-stands g X.ranged tag v room e G.low G.whole tagged x),
    ),
  )

  -- and the last store, with which the entry is home
  pub last-next : (L : List Write) (i : ℕ) → get_or L i no_write ≡ write_of_entry e → (h : ℕ) → suc h < home_count g e
      → tag_at g (w (suc h)) e.sector ≡ e.tag → DataHome tag g v₀ v (get_or L i no_write)
      → Midway g.provided (Home g tag v) c L i → Progress tag g v₀ (w (suc h)) c L (suc i) 0
  last-next L i q h l t d p =
      mid-ends g.provided (frame_at L i q (suc h) l) (rw q (data-kept L i q h l d, t ∙ G.fit)) p

  -- one store further: of the same entry, or the entry is home
  pub data Advance (L : List Write) (i h : ℕ) : Type 0 where
    further : h + 1 < home_count g e → Progress tag g v₀ (w h) c L i (h + 1) → Advance L i h
    arrived : h + 1 ≡ home_count g e → Pass g.provided (Home g tag (w h)) c L (suc i) → Advance L i h

  pub advance : (L : List Write) (i : ℕ) → i < length L → get_or L i no_write ≡ write_of_entry e → (h : ℕ) → h < home_count g e
      → Progress tag g v₀ v c L i h → Advance L i h
  advance L i l q zero b p = further (omega (arith, home_some g e)) (data-next L i l q p)
  advance L i l q (suc zero) b p = go (homing g e)
    where
      go : Homing g e → Advance L i 1
      go (in_one x n) =
          arrived (omega arith) (last-next L i q 0 b (tag-in-one g X.ranged tag v room e G.low G.whole tagged x) p.1 p.0)
      go (in_two x n) = further (omega arith) (first_next L i q x p)
  advance L i l q (suc (suc zero)) b p =
      let x : crosses g e.sector ≡ true = home-crosses g e b in
      let begun = rw (q, ← G.fit) at p.1.1 in
      arrived (omega (arith, home-in-two g e x))
      (last-next L i q 1 b (tag-in-two g X.ranged tag v room e G.low G.whole tagged x begun) p.1.0 p.0)
  advance L i l q (suc (suc (suc h))) b p = absurd (omega (arith, home-most g e))
