use Rattle.std.proofs.Common.{◌≡◌, ◌∙◌, ◌||◌, List, ℕ, refl, subst, ap}
use Rattle.std.proofs.lemmas.Result.{err_from_is_err_and}
use Rattle.elf_model.specs.Link.Groups.{AreLawfulGroups}
use Rattle.elf_model.specs.Inputs.ObjectFile.{groups}
use Rattle.check_load.specs.Loaders.{loaded}
use Rattle.check_load.specs.Names.{asked_in, defined_in, defines_name, requests_name}
use Rattle.opening.specs.Opened.{item_view}
use Rattle.check_load.specs.NameNumbers.{is_among}
use Rattle.check_load.specs.Signatures.{seen_by}
use Rattle.check_load.proofs.LoaderLaws.{groups_stop, knows_more, lost, object_is, pushed}
use Rattle.check_load.proofs.NumberedNames.{numbered_pushed}
use Rattle.check_load.proofs.loader.Loader.add.Goals as goal

pub returns-in_err-dropped-clause-stop : goal.returns-in_err-dropped-clause-stop
returns-in_err-dropped-clause-stop c =
    let p = err_from_is_err_and c.from_residual-in_err-dropped.result c.from_residual-in_err-dropped.ensures.1 in
    rw (p.1, p.2) (groups_stop c.args.bytes.now c.in_ok-object.object c.in_err-dropped.field-0.0 c.in_ok-object.ensures.exact c.in_err-dropped.ensures.stop)

pub returns-clause-loaded : goal.returns-clause-loaded
returns-clause-loaded c =
    let os = loaded c.args.self.now in
    let bytes = c.args.bytes.now in
    let gone = lost os (is_among c.args.self.now.seen) bytes c.in_ok-object.object c.in_ok-dropped.dropped c.requires.seen c.in_ok-object.ensures.exact c.in_ok-dropped.ensures.dropped in
    let o = item_view c.args.item.now in
    pushed c.args.self.now.objects.items c.push.new.self.items _ os o c.args.offset bytes refl c.in_ok-push.ensures.items
    (object_is os o c.args.offset bytes c.in_ok-object.object c.in_ok-dropped.dropped c.in_ok-object.ensures.exact gone)

pub returns-clause-known : goal.returns-clause-known
returns-clause-known c =
    let os = loaded c.args.self.now in
    let bytes = c.args.bytes.now in
    let gone = lost os (is_among c.args.self.now.seen) bytes c.in_ok-object.object c.in_ok-dropped.dropped c.requires.seen c.in_ok-object.ensures.exact c.in_ok-dropped.ensures.dropped in
    let o = item_view c.args.item.now in
    knows_more c.args.places.now c.args.self.now _ o c.args.offset bytes c.requires c.in_ok-numbers.ensures.woken c.in_ok-numbers.ensures.stays refl (returns-clause-loaded c)
    (subst (λ (b : List ℕ). is_among c.admit.new.seen ≡ seen_by (is_among c.args.self.now.seen) (groups b)) c.in_ok-object.ensures.exact c.in_ok-dropped.ensures.seen)
    (λ n.
    c.in_ok-numbers.ensures.requested n
    ∙ (ap (λ (b : List ℕ). asked_in b c.in_ok-dropped.dropped n || requests_name c.args.self.now.names n) c.in_ok-object.ensures.exact
    ∙ ap (λ (ks : List ℕ). asked_in bytes ks n || requests_name c.args.self.now.names n) gone))
    (λ n.
    c.in_ok-numbers.ensures.defined n
    ∙ (ap (λ (b : List ℕ). defined_in b c.in_ok-dropped.dropped n || defines_name c.args.self.now.names n) c.in_ok-object.ensures.exact
    ∙ ap (λ (ks : List ℕ). defined_in bytes ks n || defines_name c.args.self.now.names n) gone)) c.in_ok-add.ensures.members c.in_ok-add.ensures.items
    c.in_ok-object.ensures.object (subst (λ (b : List ℕ). AreLawfulGroups (groups b)) c.in_ok-object.ensures.exact c.in_ok-dropped.ensures.lawful)
    (numbered_pushed c.args.self.now.names.names c.note_object.new.names.names c.args.self.now.objects.items c.push.new.self.items _ c.requires.numbered c.in_ok-numbers.ensures.kept c.in_ok-push.ensures.items
    c.in_ok-numbers.ensures.numbers)
