use Rattle.std.proofs.Common.{◌≡◌, ◌∙◌, ◌||◌, List, ℕ, refl, sym, subst, ap}
use Rattle.std.proofs.lemmas.List.Elements.{All-push}
use Rattle.elf_model.specs.Link.Groups.{AreLawfulGroups, GroupFaultStands, seen_after}
use Rattle.elf_model.specs.Inputs.ObjectFile.{groups}
use Rattle.search.specs.Faults.{FailsAt}
use Rattle.search.specs.Loaders.{asked_in, defined_in, loaded}
use Rattle.search.specs.Mentions.{has_definition}
use Rattle.search.specs.Names.{is_among}
use Rattle.search.specs.Numbers.{AreNumbered, IsNumbered}
use Rattle.opening.specs.Opened.{item_view}
use Rattle.search.specs.declared.loaded.LoadedObject as code
use Rattle.search.proofs.FaultLaws.{groups_fail}
use Rattle.search.proofs.LoaderLaws.{knows_more, lost, object_is, pushed}
use Rattle.search.proofs.NumberedSymbols.{numbered_grow}
use Rattle.search.proofs.loader.Loader.add.Goals as goal

pub returns-in-Err-clause-fault : goal.returns-in-Err-clause-fault
returns-in-Err-clause-fault g c =
    let bytes = c.args.bytes.now in
    subst (FailsAt bytes) (sym c.group_fault.ensures)
    (groups_fail bytes c.in-Err.fault c.in_ok-object.ensures.object
    (subst (λ (b : List ℕ). GroupFaultStands (groups b) c.in-Err.fault) c.in_ok-object.ensures.exact c.in-Err.ensures.fault))

pub returns-clause-loaded : goal.returns-clause-loaded
returns-clause-loaded g c =
    let os = loaded c.args.self.now in
    let bytes = c.args.bytes.now in
    let gone = lost os c.args.self.now.groups bytes c.in_ok-object.object c.in-Ok.dropped c.requires.seen c.in_ok-object.ensures.exact c.in-Ok.ensures.dropped in
    pushed c.args.self.now.objects.items c.push.new.self.items _ os (item_view c.args.item.now) c.args.offset bytes refl c.in_ok-push.ensures.items
    (object_is os (item_view c.args.item.now) c.args.offset bytes c.in_ok-object.object c.in-Ok.dropped c.in_ok-object.ensures.exact gone)

pub returns-clause-known : goal.returns-clause-known
returns-clause-known g c =
    let os = loaded c.args.self.now in
    let bytes = c.args.bytes.now in
    let gone = lost os c.args.self.now.groups bytes c.in_ok-object.object c.in-Ok.dropped c.requires.seen c.in_ok-object.ensures.exact c.in-Ok.ensures.dropped in
    let o = item_view c.args.item.now in
    knows_more g.N.NameNumbers.names c.args.self.now _ o c.args.offset bytes c.requires refl (returns-clause-loaded g c)
    (subst (λ (b : List ℕ). c.admit.new.self ≡ seen_after c.args.self.now.groups (groups b)) c.in_ok-object.ensures.exact c.in-Ok.ensures.admitted)
    (λ n.
    c.in_ok-numbers.ensures.requested n
    ∙ (ap (λ (b : List ℕ). asked_in b c.in-Ok.dropped n || is_among c.args.self.now.names.requested n) c.in_ok-object.ensures.exact
    ∙ ap (λ (ks : List ℕ). asked_in bytes ks n || is_among c.args.self.now.names.requested n) gone))
    c.in_ok-numbers.ensures.noted
    (λ n.
    c.in_ok-numbers.ensures.defined n
    ∙ (ap (λ (b : List ℕ). defined_in b c.in-Ok.dropped n || has_definition g.N.NameNumbers.names c.args.self.now.names n) c.in_ok-object.ensures.exact
    ∙ ap (λ (ks : List ℕ). defined_in bytes ks n || has_definition g.N.NameNumbers.names c.args.self.now.names n) gone))
    (subst (λ (l : List code.LoadedObject). AreNumbered (g.N.NameNumbers.names c.note_all.new.self.numbers) l) (sym c.in_ok-push.ensures.items)
    (All-push (IsNumbered (g.N.NameNumbers.names c.note_all.new.self.numbers)) c.args.self.now.objects.items _
    (numbered_grow _ _ c.args.self.now.objects.items c.in_ok-numbers.ensures.added c.requires.numbered) c.in_ok-numbers.ensures.numbers))
    c.in_ok-add.ensures c.in_ok-object.ensures.object
    (subst (λ (b : List ℕ). AreLawfulGroups (groups b)) c.in_ok-object.ensures.exact c.in-Ok.ensures.lawful)
