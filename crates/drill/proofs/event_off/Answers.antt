use Rattle.std.specs.Prelude.{option_copied}
use Rattle.drill.specs.Script.{long_key}
use Rattle.drill.proofs.Turns.{opens, opens-short, opens-long}
use Rattle.drill.proofs.event_off.Goals as goal

pub returns-in-Open : goal.returns-in-Open
returns-in-Open c =
    let a = c.args in
    opens (option_copied a.x.key) a.x.reserved a.e.kind a.e.sector a.e.fill a.v.now a.st.now c.after_open.result c.open_filled.result _ c.requires
    c.open_filled.ensures c.after_open.ensures c.in-Open.is

pub returns-in-ShortOpen : goal.returns-in-ShortOpen
returns-in-ShortOpen c =
    let a = c.args in
    opens-short (option_copied a.x.key) a.x.reserved a.e.kind a.e.sector a.e.fill a.v.now a.st.now c.at_rest.result _ c.at_rest.ensures c.short_open.ensures
    c.in-ShortOpen.is

pub returns-in-LongKeyOpen : goal.returns-in-LongKeyOpen
unfolding long_key
returns-in-LongKeyOpen c =
    let a = c.args in
    opens-long (option_copied a.x.key) a.x.reserved a.e.kind a.e.sector a.e.fill a.v.now a.st.now c.at_rest-in-LongKeyOpen.result _
    c.at_rest-in-LongKeyOpen.ensures c.open_filled-in-LongKeyOpen.ensures c.in-LongKeyOpen.is
