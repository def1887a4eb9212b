-- Entries of the journal that are to be replayed: each has all its bytes.
use Prim.Native.Nat.{ℕ, zero, suc, ◌+◌, ◌-◌, ◌*◌, ◌≤◌, ◌<◌}
use mathlib.Core.Bool.{Bool, true, false}
use mathlib.Core.List.{List, [], ◌∷◌, ◌++◌}
use mathlib.Core.Path.{◌≡◌, sym, ap, ◌∙◌, subst}
use native.Mathlib.Decide.{dec_lt}
use native.Mathlib.Omega.{arith}
use lib.Dec.{eqb}
use lib.ListN.{length, get_or, length-append, get_or-append, get_or-map}
use lib.Seq.{get_or-append-add}
use Rattle.octets.specs.Choice.{pick}
use Rattle.octets.proofs.Parts.{length_part}
use Rattle.on_disk.specs.declared.Layout.{Layout}
use Rattle.on_disk.specs.Layout.{entry_count, section_size, section_at, needed}
use Rattle.on_disk.specs.Section.{unused, entry_of}
use Rattle.octets.specs.Lists.{collect}
use Rattle.model.specs.Journal.{Replayed, used_entry, used_of, section_of, replay}
use Rattle.model.specs.Store.{home_count, EntryStore, store_of, stores_of_entry, entry_stores, stores_of, RecoveryStep, storing, recovery_steps, steps_of, no_store}
use Rattle.on_disk.proofs.Addresses.{Ranged, section-low, base-room}
use Rattle.on_disk.proofs.Sections.{bytes-length, tag-length}
use Rattle.model.proofs.Journals.{Every, every_append, every-replay}
use Rattle.model.proofs.Plans.{length-stores, get-stores, steps-stores}

pub record Complete (g : Layout) (x : Replayed) : Type 0 where
  pub whole : length x.entry.bytes ≡ 512
  pub sized : length x.entry.tag ≡ g.width

module _ (g : Layout) (R : Ranged g) (v : List ℕ) (room : needed g * 512 ≤ length v) where
  used-complete : (k : ℕ) → k < g.sections → Every (Complete g) (used_of g.width k (section_of g v k))
  used-complete k l = all (entry_count g.width) (omega arith)
    where
      t : ℕ
      t = g.width

      sec : List ℕ
      sec = section_of g v k

      size : length sec ≡ section_size t * 512
      size = length_part v (section_at g k * 512) (section_size t * 512) (omega (arith, section-low g R k l, base-room g R))

      one : (i : ℕ) → i < entry_count t → (b : Bool) → Every (Complete g) (pick b [] (record { section = k; index = i; entry = entry_of t sec i } ∷ []))
      one i m true = tt
      one i m false = (record { whole = bytes-length t i R.t.bound m sec size; sized = tag-length t i R.t.bound m sec size }, tt)

      all : (m : ℕ) → m ≤ entry_count t → Every (Complete g) (collect m (λ i. used_entry k i (entry_of t sec i)))
      all zero h = tt
      all (suc m) h =
          every_append (Complete g) (collect m (λ i. used_entry k i (entry_of t sec i))) (used_entry k m (entry_of t sec m)) (all m (omega arith))
          (one m (omega arith) (eqb (entry_of t sec m).sector unused))

  pub replay-complete : Every (Complete g) (replay g v)
  replay-complete = every-replay g v (Complete g) (λ k l n. used-complete k l)

-- a store of a replay is one of its entries', and so is a step of a recovery
abbrev pub StoreFor : Layout → (Replayed → Type 0) → EntryStore → Type 0
StoreFor g Q (store_of x h) = Q x × (h < home_count g x.entry)

pub store-every : (g : Layout) (Q : Replayed → Type 0) (xs : List Replayed) → Every Q xs → (k : ℕ) → k < stores_of g xs → StoreFor g Q (get_or (entry_stores g xs) k no_store)
store-every g Q [] p k l = absurd (omega arith)
store-every g Q (x ∷ xs) p k l = go (dec_lt k (home_count g x.entry)) (store-every g Q xs p.1 (k - home_count g x.entry))
  where
    count : length (stores_of_entry g x) ≡ home_count g x.entry
    count = length-stores g x

    go : Dec (k < home_count g x.entry)
        → (k - home_count g x.entry < stores_of g xs → StoreFor g Q (get_or (entry_stores g xs) (k - home_count g x.entry) no_store))
        → StoreFor g Q (get_or (stores_of_entry g x ++ entry_stores g xs) k no_store)
    go (yes h) ih =
        subst (StoreFor g Q)
        (sym (get_or-append (stores_of_entry g x) (entry_stores g xs) no_store k (omega (arith, count)) ∙ get-stores g x k h)) (p.0, h)
    go (no h) ih =
        let on : length (stores_of_entry g x) + (k - home_count g x.entry) ≡ k = omega (arith, count) in
        subst (StoreFor g Q)
        (sym (get_or-append-add (stores_of_entry g x) (entry_stores g xs) (k - home_count g x.entry) no_store)
        ∙ ap (λ (n : ℕ). get_or (stores_of_entry g x ++ entry_stores g xs) n no_store) on)
        (ih (omega (arith, count, length-append (stores_of_entry g x) (entry_stores g xs))))

abbrev pub StepFor : Layout → (Replayed → Type 0) → RecoveryStep → Type 0
StepFor g Q (storing x) = StoreFor g Q x

pub step-every : (g : Layout) (Q : Replayed → Type 0) (xs : List Replayed) → Every Q xs → (k : ℕ) → k < steps_of g xs
    → StepFor g Q (get_or (recovery_steps g xs) k (storing no_store))
step-every g Q xs p k l =
    subst (StepFor g Q) (sym (get_or-map storing (entry_stores g xs) k no_store))
    (store-every g Q xs p k (omega (arith, steps-stores g xs)))
