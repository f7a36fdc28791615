use Rattle.std.proofs.Common.{inl, inr, ℕ, subst}
use Rattle.elf_model.specs.Inputs.Command.{Plan}
use Rattle.elf_model.specs.Inputs.Files.{files_of, words_of}
use Rattle.elf_model.specs.Link.Loading.{loaded_objects}
use Rattle.explain.specs.Flawed.{TellsReferencesOf, TellsResolutionOf, flaw_of, reference_of}
use Rattle.explain.proofs.Caused.{one_plan}
use Rattle.explain.proofs.Told.{are_first, refused, some_flaw, some_reference, told_again, unreferred}
use Rattle.explain.proofs.link.explain.Goals as goal

pub returns-in_ok-told-in_default : goal.returns-in_ok-told-in_default
returns-in_ok-told-in_default c =
    let files = files_of c.args.files.now in
    let words = words_of c.args.words.now in
    let e = c.args.error.now in
    let told = c.in_ok-told-in_default.ensures in
    let added = c.in_ok-beside-in_default.ensures in
    let found = c.add_reasons.new.found in
    let kept = c.in_ok-told-in_default.told in
    let most = c.new-found.ensures.most in
    record {
      holds = told.holds files words c.in_default.not-Memory c.requires added.places;
      hints = added.hints;
      notes = added.notes;
      archives = added.archives;
      resolution =
          λ of plan is.
          let u = refused files words e of c.requires in
          let objects = loaded_objects files u.0 in
          let t = subst (λ (n : ℕ). TellsResolutionOf objects n found.places.items found.more) most (added.resolution u.0 u.1 u.2) in
          let first = are_first flaw_of e t.0 c.args.most found.places.items found.more (λ p there. inl (of, there)) t.2 (some_flaw objects t.0 t.1 u.2) in
          let same = told.flaws first.of first.few first.some in
          subst (λ (p : Plan). TellsResolutionOf (loaded_objects files p) c.args.most kept.places.items kept.more) (one_plan words u.0 plan u.1.before.before.words_are is)
          (t.0, t.1, told_again flaw_of t.0 c.args.most found.places.items kept.places.items found.more kept.more t.2 same.0 same.1);
      references =
          λ of plan is.
          let u = unreferred files words e of c.requires in
          let objects = loaded_objects files u.0 in
          let t = subst (λ (n : ℕ). TellsReferencesOf objects u.0.entry n found.places.items found.more) most (added.references u.0 u.1 u.2) in
          let first = are_first reference_of e t.0 c.args.most found.places.items found.more (λ p there. inr (of, there)) t.2 (some_reference objects u.0.entry t.0 t.1 u.2) in
          let same = told.flaws first.of first.few first.some in
          subst (λ (p : Plan). TellsReferencesOf (loaded_objects files p) p.entry c.args.most kept.places.items kept.more)
          (one_plan words u.0 plan u.1.before.before.before.words_are is)
          (t.0, t.1, told_again reference_of t.0 c.args.most found.places.items kept.places.items found.more kept.more t.2 same.0 same.1);
      few = told.few;
      some = told.some;
    }
