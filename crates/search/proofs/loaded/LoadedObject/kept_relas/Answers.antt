use Rattle.std.proofs.Common.{ap, subst, sym, ◌∙◌}
use Rattle.std.specs.Prelude.{All}
use Rattle.search.specs.KeptLists.{IsKeptRela, relocations_of_relas}
use Rattle.search.specs.Views.{loaded_view}
use Rattle.search.proofs.KeptListLaws.{relas_kept, relocations_listed}
use Rattle.search.proofs.loaded.LoadedObject.kept_relas.Goals as goal

pub returns-clause-kept : goal.returns-clause-kept
returns-clause-kept c =
    subst (All (IsKeptRela (loaded_view c.args.self.now))) (sym (c.as_slice.ensures.value ∙ c.args.self.now.relas_are)) (relas_kept 0 (loaded_view c.args.self.now))

pub returns-clause-relocations : goal.returns-clause-relocations
returns-clause-relocations c = λ n. let o = loaded_view c.args.self.now in relocations_listed n o ∙ ap (relocations_of_relas n o) (sym (c.as_slice.ensures.value ∙ c.args.self.now.relas_are))
