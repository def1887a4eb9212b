use Rattle.sound.proofs.Tags.{digested, plain}
use Rattle.sound.proofs.tag.Rule.tag.Goals as goal

pub unwrap-requires : goal.unwrap-requires
unwrap-requires c = rw (digested c.args.s c.args.bytes.now c.put_number.new.s c.sha256_of_two.result c.requires c.put_number.ensures c.sha256_of_two.ensures)

pub returns-in-Plain : goal.returns-in-Plain
returns-in-Plain c = rw c.in-Plain.is (plain c.args.s c.args.bytes.now c.put_number.new.s c.sha256_of_two.result c.requires c.put_number.ensures c.sha256_of_two.ensures c.unwrap.result c.unwrap.ensures)
