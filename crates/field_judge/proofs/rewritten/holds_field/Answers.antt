use Rattle.std.proofs.Common.{ap, refl, rules}
use Rattle.std.proofs.lemmas.Int.{to_z-of_z}
use Rattle.std.specs.Int.{w64}
use Rattle.judge_model.specs.Rewrites.{Put}
use Rattle.field_judge.specs.Kinds.{kind_view}
use Rattle.field_judge.specs.Rewritten.{instruction_view, put_view}
use Rattle.field_judge.proofs.RowLaws.{put_tells, put_width, row_field}
use Rattle.field_judge.proofs.rewritten.holds_field.Goals as goal

pub is_right-requires : goal.is_right-requires
is_right-requires c =
    let i = instruction_view c.args.i in
    let is = ap (λ (p : Put). p.kind) c.put_by-put.ensures in
    record {
      width = put_width c.args.row i (kind_view c.put_by-put.result.kind) is;
      tells = put_tells c.args.row i (kind_view c.put_by-put.result.kind) is;
    }

pub returns : goal.returns
returns c = λ g given.
    row_field c.args.image.now c.args.taken.now g (instruction_view c.args.i) c.args.row (put_view c.put_by-put.result)
    (kind_view c.put_by-put.result.kind) c.nops_behind.result _ c.is_right.result c.put_by-put.ensures
    c.nops_behind.ensures.exact refl (to_z-of_z w64 c.put_by-put.result.addend (search rules))
    (c.is_right.ensures _ (c.earlier_by-field.ensures c.args.image.now g given))
