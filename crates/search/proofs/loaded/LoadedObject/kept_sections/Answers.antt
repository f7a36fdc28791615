use Rattle.std.proofs.Common.{ap, subst, sym, ◌∙◌}
use Rattle.std.specs.Prelude.{All}
use Rattle.search.specs.KeptLists.{IsKeptSection, pieces_at}
use Rattle.search.specs.Views.{loaded_view}
use Rattle.search.proofs.KeptListLaws.{pieces_listed, sections_kept}
use Rattle.search.proofs.loaded.LoadedObject.kept_sections.Goals as goal

pub returns-clause-kept : goal.returns-clause-kept
returns-clause-kept c =
    subst (All (IsKeptSection (loaded_view c.args.self.now))) (sym (c.as_slice.ensures.value ∙ c.args.self.now.sections_are)) (sections_kept 0 (loaded_view c.args.self.now))

pub returns-clause-pieces : goal.returns-clause-pieces
returns-clause-pieces c = λ n. let o = loaded_view c.args.self.now in pieces_listed n o ∙ ap (pieces_at n o) (sym (c.as_slice.ensures.value ∙ c.args.self.now.sections_are))
