use Rattle.std.proofs.Common.{◌≡◌, subst, sym, ◌∙◌}
use Rattle.std.specs.Prelude.{All}
use Rattle.check_load.specs.Kept.{IsKeptRela, kept_relas}
use Rattle.check_load.specs.Views.{loaded_view}
use Rattle.check_load.proofs.KeptLaws.{relas_kept}
use Rattle.check_load.proofs.loaded.Loaded.kept_relas.Goals as goal

pub returns-clause-kept : goal.returns-clause-kept
returns-clause-kept c =
    let o = loaded_view c.args.self.now in
    let listed : c.as_slice.result.now ≡ kept_relas o = c.as_slice.ensures.value ∙ c.args.self.now.relas_are in
    subst (All (IsKeptRela o)) (sym listed) (relas_kept o)
