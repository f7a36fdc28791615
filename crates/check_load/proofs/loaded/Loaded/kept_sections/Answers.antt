use Rattle.std.proofs.Common.{◌≡◌, ap, map, subst, sym, ◌∙◌}
use Rattle.std.specs.Prelude.{All}
use Rattle.check_load.specs.Kept.{IsKeptSection, kept_numbers, piece_at}
use Rattle.check_load.specs.Views.{loaded_view}
use Rattle.check_load.proofs.KeptLaws.{pieces_listed, sections_kept}
use Rattle.check_load.proofs.loaded.Loaded.kept_sections.Goals as goal

pub returns-clause-kept : goal.returns-clause-kept
returns-clause-kept c =
    let o = loaded_view c.args.self.now in
    let listed : c.as_slice.result.now ≡ kept_numbers o = c.as_slice.ensures.value ∙ c.args.self.now.numbers_are in
    subst (All (IsKeptSection o)) (sym listed) (sections_kept o)

pub returns-clause-pieces : goal.returns-clause-pieces
returns-clause-pieces c = λ n.
    let o = loaded_view c.args.self.now in
    let listed : c.as_slice.result.now ≡ kept_numbers o = c.as_slice.ensures.value ∙ c.args.self.now.numbers_are in
    pieces_listed o n ∙ ap (map (piece_at n o)) (sym listed)
