use Rattle.c_volume_state.proofs.VolumeStates.{written}
use Rattle.c_volume_state.proofs.encode.Goals as goal

pub returns : goal.returns
returns c = written c.args.s c.args.buffer.now _ _ c.phase_numbers-place.result c.requires c.phase_numbers-place.ensures c.put_layout.ensures c.put_numbers.ensures
