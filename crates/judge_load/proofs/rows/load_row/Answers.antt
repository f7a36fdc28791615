use Rattle.std.proofs.Common.{◌≡◌, ◌∙◌, ℕ, ap, subst, sym}
use Rattle.std.specs.Prelude.{IfErr, List, Some, option_copied, slice_get}
use Rattle.elf_model.specs.Image.MapRecord.{object_row}
use Rattle.elf_model.proofs.LoadingBounds.{extends_same}
use Rattle.check_load.specs.Loaders.{IsLoadable, loaded}
use Rattle.check_load.specs.Stops.{Refutes}
use Rattle.check_load.proofs.TurnLaws.{err_fails_next}
use Rattle.judge_model.specs.Loaded.{row_bytes, with_row}
use Rattle.judge_load.proofs.RowLaws.{row_there}
use Rattle.judge_load.proofs.rows.load_row.Goals as goal

pub returns-clause-stop : goal.returns-clause-stop
returns-clause-stop c =
    let os = c.args.inputs.now in
    let objects = loaded c.args.loader.now in
    let row = object_row c.args.row.now in
    let o = c.in-Some.input.now in
    let there : slice_get os row.item ≡ Some o = sym c.input_at.ensures ∙ ap option_copied c.in-Some.is in
    let is = row_there os objects row o there in
    err_fails_next c.add.result objects o row.offset (row_bytes o row) (with_row os objects row) (extends_same _ _ is)
    (subst (λ (bytes : List ℕ). IfErr c.add.result (Refutes (IsLoadable bytes))) c.bytes_of.ensures c.add.ensures.stop)
