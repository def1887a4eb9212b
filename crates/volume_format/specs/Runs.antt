-- fresh_runs tag g : the runs of a volume that format left; the last has only the data sectors still needed (R18)
use Rattle.std.specs.Prelude.{ℕ, List, ◌++◌}
use Rattle.octets.specs.Lists.{collect}
use Rattle.on_disk.specs.Layout.{run_length}
use Rattle.model.specs.Tag.{Tag}
use Rattle.model.specs.Format.{fresh_run, last_run, last_length}
use Rattle.on_disk.specs.declared.Layout.{Layout}

abbrev pub fresh_runs : Tag → Layout → List ℕ
fresh_runs tag g = collect (last_run g) (λ q. fresh_run tag g q (run_length g)) ++ fresh_run tag g (last_run g) (last_length g)
