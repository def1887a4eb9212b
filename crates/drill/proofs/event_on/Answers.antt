use Rattle.std.specs.Prelude.{option_copied}
use Rattle.drill.specs.Script.{long_key}
use Rattle.drill.proofs.Turns.{writes, writes_short, writes-long}
use Rattle.drill.proofs.event_on.Goals as goal

pub returns-in-Write : goal.returns-in-Write
returns-in-Write c =
    let a = c.args in
    writes (option_copied a.x.key) a.x.reserved a.e.kind a.e.sector a.e.fill a.v.now a.st.now a.s c.write_event.result _ c.requires c.write_event.ensures
    c.in-Write.is

pub returns-in-ShortWrite : goal.returns-in-ShortWrite
returns-in-ShortWrite c =
    let a = c.args in
    writes_short (option_copied a.x.key) a.x.reserved a.e.kind a.e.sector a.e.fill a.v.now a.st.now a.s c.write_event-in-ShortWrite.result _ c.requires
    c.write_event-in-ShortWrite.ensures c.in-ShortWrite.is

pub returns-in-LongKeyWrite : goal.returns-in-LongKeyWrite
unfolding long_key
returns-in-LongKeyWrite c =
    let a = c.args in
    writes-long (option_copied a.x.key) a.x.reserved a.e.kind a.e.sector a.e.fill a.v.now a.st.now a.s c.long_key_write.result _
    c.long_key_write.ensures c.in-LongKeyWrite.is
