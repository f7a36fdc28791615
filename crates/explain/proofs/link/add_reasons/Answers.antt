use Rattle.std.proofs.Common.{◌≡◌, ◌∙◌, ℕ, List, Err, ap, inr, rules, subst, sym}
use Rattle.std.proofs.lemmas.Bool.{false≢true}
use Rattle.elf_model.specs.Inputs.Command.{Plan, command_of}
use Rattle.elf_model.specs.Inputs.Files.{files_of, words_of}
use Rattle.elf_model.specs.Link.Loading.{LoadedObject, loaded_objects}
use Rattle.flaws.specs.Flaws.{AreResolvable}
use Rattle.search.specs.Faults.{LoadFails}
use Rattle.wrong_references.specs.References.{AreReferable}
use Rattle.explain.specs.Flawed.{TellsReferencesOf, TellsResolutionOf, TellsUnreferable, TellsUnresolvable}
use Rattle.explain.specs.Places.{OfWords}
use Rattle.explain.proofs.Caused.{one_plan}
use Rattle.explain.proofs.Told.{loads}
use Rattle.explain.proofs.link.add_reasons.Goals as goal

pub returns-in-Err : goal.returns-in-Err
returns-in-Err c =
    let all = words_of c.args.words.now in
    let refused : command_of all ≡ Err c.in-Err.fault = search rules in
    let so = c.add.ensures (OfWords all) (c.requires (OfWords all)) (record { at = c.in_ok-number-in-Err.ensures c.in-Err.fault refused; refused = refused }) in
    let none : TellsUnresolvable (files_of c.args.files.now) all c.args.found.now.most c.add.new.self.places.items c.add.new.self.more =
    (λ plan has bad. absurd (let clash = sym has.before.before.words_are ∙ refused in cc)) in
    let next : TellsUnreferable (files_of c.args.files.now) all c.args.found.now.most c.add.new.self.places.items c.add.new.self.more =
    (λ plan has bad. absurd (let clash = sym has.before.before.before.words_are ∙ refused in cc)) in
    search (rules, so, none, next)

pub returns-in-Ok-load_seeded-clause-hints : goal.returns-in-Ok-load_seeded-clause-hints
returns-in-Ok-load_seeded-clause-hints c k d within =
    let read = c.in-Ok-load_seeded.ensures in (
      c.in-Ok-load_seeded.loaded,
      record { plan = _; words_are = c.in-Ok.ensures.plan; plan_is = read.plan; loads = read.loaded },
      c.in_ok-hints-in-Ok-load_seeded.ensures k d within,
    )

pub returns-in-Ok-load_seeded-clause-archives : goal.returns-in-Ok-load_seeded-clause-archives
returns-in-Ok-load_seeded-clause-archives c k d within =
    let read = c.in-Ok-load_seeded.ensures in (
      c.in-Ok-load_seeded.loaded,
      record { plan = _; words_are = c.in-Ok.ensures.plan; plan_is = read.plan; loads = read.loaded },
      c.in_ok-archives-in-Ok-load_seeded.ensures k d within,
    )

pub returns-in-Ok-load_seeded-clause-resolution : goal.returns-in-Ok-load_seeded-clause-resolution
returns-in-Ok-load_seeded-clause-resolution c = λ plan has bad.
    let files = files_of c.args.files.now in
    let same = one_plan (words_of c.args.words.now) c.in-Ok.plan plan c.in-Ok.ensures.plan has.before.before.words_are in
    let objects = c.in-Ok-load_seeded.ensures.loaded ∙ ap (loaded_objects files) same in
    subst (λ (os : List LoadedObject). TellsResolutionOf os c.args.found.now.most c.add_loaded.new.found.places.items c.add_loaded.new.found.more) objects
    (c.in_ok-notes-in-Ok-load_seeded.ensures.resolution (λ good. bad (subst AreResolvable objects good)))

pub returns-in-Ok-load_seeded-clause-references : goal.returns-in-Ok-load_seeded-clause-references
returns-in-Ok-load_seeded-clause-references c = λ plan has bad.
    let files = files_of c.args.files.now in
    let read = c.in-Ok-load_seeded.ensures in
    let loaded = c.in-Ok-load_seeded.loaded in
    let found = c.add_loaded.new.found in
    let same = one_plan (words_of c.args.words.now) c.in-Ok.plan plan c.in-Ok.ensures.plan has.before.before.before.words_are in
    let objects = read.loaded ∙ ap (loaded_objects files) same in
    let entry = ap (λ (p : Plan). p.entry) (read.plan ∙ same) in
    let good = subst AreResolvable (sym objects) (record { kinds = has.kinds; commons = has.commons; sound = has.sound; unique = has.unique }) in
    let wrong =
    subst (λ (os : List LoadedObject). ¬ AreReferable os loaded.plan.entry) (sym objects) (subst (λ (e : List ℕ). ¬ AreReferable (loaded_objects files plan) e) (sym entry) bad) in
    subst (λ (e : List ℕ). TellsReferencesOf (loaded_objects files plan) e c.args.found.now.most found.places.items found.more) entry
    (subst (λ (os : List LoadedObject). TellsReferencesOf os loaded.plan.entry c.args.found.now.most found.places.items found.more) objects
    (c.in_ok-notes-in-Ok-load_seeded.ensures.references good wrong))

pub returns-in-Ok-load_seeded-clause-places : goal.returns-in-Ok-load_seeded-clause-places
returns-in-Ok-load_seeded-clause-places c = λ k d within.
    let read = c.in-Ok-load_seeded.ensures in
    inr (inr (
      c.in-Ok-load_seeded.loaded,
      record { plan = _; words_are = c.in-Ok.ensures.plan; plan_is = read.plan; loads = read.loaded },
      c.in_ok-notes-in-Ok-load_seeded.ensures.places k d within,
    ))

pub returns-clause-resolution : goal.returns-clause-resolution
returns-clause-resolution c = λ plan has bad.
    let files = files_of c.args.files.now in
    let words = words_of c.args.words.now in
    let f = c.in-Err-load_seeded.fault in
    let same = one_plan words c.in-Ok.plan plan c.in-Ok.ensures.plan has.before.before.words_are in
    absurd
    (loads files words plan f (λ is. false≢true (sym c.if-is_memory.false ∙ c.is_memory.ensures.1 is))
    (subst (λ (p : Plan). LoadFails files p f) same c.in-Err-load_seeded.ensures.fault) has)

pub returns-clause-references : goal.returns-clause-references
returns-clause-references c = λ plan has bad.
    let files = files_of c.args.files.now in
    let words = words_of c.args.words.now in
    let f = c.in-Err-load_seeded.fault in
    let same = one_plan words c.in-Ok.plan plan c.in-Ok.ensures.plan has.before.before.before.words_are in
    absurd
    (loads files words plan f (λ is. false≢true (sym c.if-is_memory.false ∙ c.is_memory.ensures.1 is))
    (subst (λ (p : Plan). LoadFails files p f) same c.in-Err-load_seeded.ensures.fault) has.before)
