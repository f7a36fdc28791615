use Rattle.std.proofs.Common.{◌≡◌, ◌++◌, drop, map}
use Rattle.std.specs.Prelude.{filter}
use Rattle.judge_model.specs.Headers.{is_of_type, pt_gnu_eh_frame, table_stretch}
use Rattle.judge_stages.proofs.stretches.tables_among.Given as goal

abbrev pub invariant-loop-h : goal.invariant-loop-h
invariant-loop-h l =
    l.tables.items ++ map table_stretch (filter (is_of_type pt_gnu_eh_frame) (drop l.h-index l.headers))
    ≡ map table_stretch (filter (is_of_type pt_gnu_eh_frame) l.headers)
