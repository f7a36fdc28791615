use Rattle.std.proofs.Common.{ℕ, List, slice_index, sym, ap, ◌∙◌}
use Rattle.byteview.proofs.NumberLaws.{le_at-one}
use Rattle.byteview.proofs.view.View.u8_inside.Goals as goal

pub returns : goal.returns
returns c =
    ap (λ (xs : List ℕ). slice_index xs c.args.at) c.self.view_is ∙ sym (le_at-one c.args.self.now c.args.at)
