-- Scripts: lists of calls and cuts as bytes. R58 and R59 have more lists than scripts can write: here the bytes of a loan have one value, staging is
-- the whole of a loan or its first 511 bytes, what a write or a read is lent has 512 bytes or 511, a key that no call takes has 257, and a sector's number
-- is below 65,536.
--
-- event_size          : the bytes of an event: its kind, a logical sector (2, little-endian), a byte to fill loans with
-- short_size          : a byte less than a sector has: a wrong length for every loan
-- long_key b          : a key of bytes b, a byte longer than any that a call takes (R106)
-- kind_rows k         : the kinds, by rows of a test of their number and a kind; kind_of k: the kind with the number k, a read where there is none
-- event_by n k s b    : the event of kind k with the sector s and the byte b, on a staging loan of n bytes
-- event_of n k s b    : that of the kind with the number k
-- event_at n script i : event i of a script
-- events_of n script  : all of them. Any bytes are a script: fewer than an event has, at the end, are none
use Rattle.std.specs.Prelude.{ℕ, ◌+◌, ◌-◌, ◌*◌, ◌/◌, Bool, false, ◌&&◌, List, [], ◌∷◌, ◌≡◌, length, get_or, take, replicate, leb, eqb}
use Rattle.std.proofs.Common.{ap}
use Rattle.std.proofs.lemmas.List.{length-replicate}
use Rattle.octets.specs.Choice.{first_met}
use Rattle.octets.specs.Numbers.{value}
use Rattle.octets.specs.Parts.{part}
use Rattle.octets.specs.Sectors.{sector_size}
use Rattle.octets.specs.Lists.{collect}
use Rattle.hmac.specs.Hmac.{most_key, key_ok}
use Rattle.drill.specs.declared.Kind.{Kind}
use Rattle.drill.specs.declared.Kind.TheVariants.{Cut, Open, Write, Flush, Step, Read, ShortOpen, ShortWrite, ShortRead, LongKeyOpen, LongKeyWrite, LongKeyRead}
use Rattle.model.specs.World.{Event, a_cut, an_open, a_write, a_flush, a_step, a_read, a_keyed_open, a_keyed_write, a_keyed_read}

abbrev pub event_size : ℕ
event_size = 4

abbrev pub short_size : ℕ
short_size = sector_size - 1

unfoldable pub long_key : ℕ → List ℕ
long_key b = replicate (most_key + 1) b

pub long-key-refused : (b : ℕ) → key_ok (long_key b) ≡ false
unfolding long_key
long-key-refused b = ap (λ (n : ℕ). leb 1 n && leb n most_key) (length-replicate {A = ℕ} (most_key + 1) b)

abbrev pub kind_rows : ℕ → List (Bool × Kind)
kind_rows k =
    (eqb k 0, Cut)
    ∷ (eqb k 1, Open)
    ∷ (eqb k 2, Write)
    ∷ (eqb k 3, Flush)
    ∷ (eqb k 4, Step)
    ∷ (eqb k 6, ShortOpen)
    ∷ (eqb k 7, ShortWrite)
    ∷ (eqb k 8, ShortRead)
    ∷ (eqb k 9, LongKeyOpen)
    ∷ (eqb k 10, LongKeyWrite)
    ∷ (eqb k 11, LongKeyRead)
    ∷ []

abbrev pub kind_of : ℕ → Kind
kind_of k = first_met (kind_rows k) Read

abbrev pub event_by : ℕ → Kind → ℕ → ℕ → Event
event_by n Cut s b = a_cut
event_by n Open s b = an_open (replicate n b)
event_by n Write s b = a_write s (replicate sector_size b)
event_by n Flush s b = a_flush
event_by n Step s b = a_step
event_by n Read s b = a_read s (replicate sector_size b)
event_by n ShortOpen s b = an_open (take short_size (replicate n b))
event_by n ShortWrite s b = a_write s (replicate short_size b)
event_by n ShortRead s b = a_read s (replicate short_size b)
event_by n LongKeyOpen s b = a_keyed_open (long_key b) (replicate n b) (long-key-refused b)
event_by n LongKeyWrite s b = a_keyed_write (long_key b) s (replicate sector_size b) (long-key-refused b)
event_by n LongKeyRead s b = a_keyed_read (long_key b) s (replicate sector_size b) (long-key-refused b)

unfoldable pub event_of : ℕ → ℕ → ℕ → ℕ → Event
event_of n k s b = event_by n (kind_of k) s b

abbrev pub event_at : ℕ → List ℕ → ℕ → Event
event_at n script i = event_of n (get_or script (i * event_size) 0) (value (part script (i * event_size + 1) 2)) (get_or script (i * event_size + 3) 0)

abbrev pub events_up_to : ℕ → List ℕ → ℕ → List Event
events_up_to n script m = collect m (λ i. event_at n script i ∷ [])

abbrev pub events_of : ℕ → List ℕ → List Event
events_of n script = events_up_to n script (length script / event_size)
