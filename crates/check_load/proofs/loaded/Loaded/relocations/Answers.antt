use Rattle.std.proofs.Common.{List, ap, map, subst, sym, ◌∙◌}
use Rattle.std.specs.Prelude.{All}
use Rattle.check_load.specs.KeptRelocations.{IsKeptRelocation, relocation_at, relocations_of_relas}
use Rattle.check_load.specs.Views.{loaded_view}
use Rattle.check_load.specs.declared.kept_sections.KeptRela.{KeptRela}
use Rattle.check_load.proofs.KeptRelocationLaws.{relocations_kept, relocations_listed}
use Rattle.check_load.proofs.loaded.Loaded.relocations.Goals as goal

pub returns-clause-exact : goal.returns-clause-exact
returns-clause-exact c =
    c.relocations_of.ensures ∙ ap (λ (ks : List KeptRela). relocations_of_relas c.args.self.now.object ks) c.kept_relas.ensures.exact

pub returns-clause-relocations : goal.returns-clause-relocations
returns-clause-relocations c = λ n.
    let o = loaded_view c.args.self.now in
    ap (map (relocation_at n o)) (returns-clause-exact c) ∙ relocations_listed n o

pub returns-clause-kept : goal.returns-clause-kept
returns-clause-kept c =
    let o = loaded_view c.args.self.now in
    subst (All (IsKeptRelocation o)) (sym (returns-clause-exact c)) (relocations_kept o)
