use Rattle.std.proofs.Common.{◌∙◌, ap, subst, sym}
use Rattle.elf_model.specs.Own.Causes.{Cause}
use Rattle.elf_model.specs.Inputs.Command.{Plan}
use Rattle.elf_model.specs.Inputs.Files.{words_of}
use Rattle.linker.specs.Linkages.{HasOwnLink, IsPrepared}
use Rattle.opening.specs.Held.{held_files}
use Rattle.image_write.specs.Linkages.{AreParts, linked_of}
use Rattle.linker.specs.Outputs.{AreLinkable, LinksRefuse}
use Rattle.linker.proofs.FinalRefusals.{denies_links}
use Rattle.linker.proofs.Links.{cause, loading_fails, own_addresses, own_maps_right, prepared, right_link}
use Rattle.linker.proofs.phases.prepare_by.Goals as goal

pub returns-in-Err-load_parts-clause-cause : goal.returns-in-Err-load_parts-clause-cause
returns-in-Err-load_parts-clause-cause g c =
    let files = held_files c.args.parts.now c.args.files.now in
    let words = words_of c.args.words.now in
    subst (Cause files words) (sym c.search_error.ensures)
    (loading_fails files words c.in-Ok.plan c.in-Ok.ensures.plan c.in-Err-load_parts.fault c.in-Err-load_parts.ensures.fault)

pub returns-in-Err-load_parts-clause-no_link : goal.returns-in-Err-load_parts-clause-no_link
returns-in-Err-load_parts-clause-no_link g c =
    denies_links (held_files c.args.parts.now c.args.files.now) (words_of c.args.words.now) c.search_error.result (returns-in-Err-load_parts-clause-cause g c)

pub returns-in-Ok-prepare_loaded-clause-prepared : goal.returns-in-Ok-prepare_loaded-clause-prepared
returns-in-Ok-prepare_loaded-clause-prepared g c =
    let l = c.in-Ok-load_parts.loaded in
    let p = c.in-Ok.plan in
    let x = c.in-Ok-prepare_loaded.parts in
    let is = c.in-Ok-load_parts.ensures.plan in
    subst (IsPrepared (held_files c.args.parts.now c.args.files.now) (words_of c.args.words.now))
    (ap (λ (q : Plan). linked_of (record { plan = q; objects = l.objects; names = l.names }) x) (sym is) ∙ sym c.new.ensures)
    (prepared (held_files c.args.parts.now c.args.files.now) (words_of c.args.words.now) p l.objects c.in-Ok-load_parts.ensures.loaded c.in-Ok.ensures.plan
    c.in-Ok-load_parts.ensures.files c.in-Ok-load_parts.ensures.archives c.in-Ok-load_parts.ensures.indexes c.in-Ok-load_parts.ensures.objects c.in-Ok-load_parts.ensures.groups l.names x
    (subst (λ (q : Plan). AreLinkable q l.objects) is c.in-Ok-prepare_loaded.ensures.linkable)
    (subst (λ (q : Plan). AreParts (record { plan = q; objects = l.objects; names = l.names }) x) is c.in-Ok-prepare_loaded.ensures.made))

pub returns-in-Ok-prepare_loaded-clause-own : goal.returns-in-Ok-prepare_loaded-clause-own
returns-in-Ok-prepare_loaded-clause-own g c =
    own_maps_right (held_files c.args.parts.now c.args.files.now) (words_of c.args.words.now) c.new.result (returns-in-Ok-prepare_loaded-clause-prepared g c)

pub returns-in-Ok-prepare_loaded-clause-right : goal.returns-in-Ok-prepare_loaded-clause-right
returns-in-Ok-prepare_loaded-clause-right g c =
    let l = c.in-Ok-load_parts.loaded in
    let p = c.in-Ok.plan in
    let x = c.in-Ok-prepare_loaded.parts in
    let is = c.in-Ok-load_parts.ensures.plan in
    subst (HasOwnLink (held_files c.args.parts.now c.args.files.now) (words_of c.args.words.now))
    (ap (λ (q : Plan). linked_of (record { plan = q; objects = l.objects; names = l.names }) x) (sym is) ∙ sym c.new.ensures)
    (right_link (held_files c.args.parts.now c.args.files.now) (words_of c.args.words.now) p l.objects c.in-Ok-load_parts.ensures.loaded c.in-Ok.ensures.plan
    c.in-Ok-load_parts.ensures.files c.in-Ok-load_parts.ensures.archives c.in-Ok-load_parts.ensures.indexes c.in-Ok-load_parts.ensures.objects c.in-Ok-load_parts.ensures.groups l.names x
    (subst (λ (q : Plan). AreLinkable q l.objects) is c.in-Ok-prepare_loaded.ensures.linkable)
    (subst (λ (q : Plan). AreParts (record { plan = q; objects = l.objects; names = l.names }) x) is c.in-Ok-prepare_loaded.ensures.made))

pub returns-clause-cause : goal.returns-clause-cause
returns-clause-cause g c =
    let p = c.in-Ok.plan in
    cause (held_files c.args.parts.now c.args.files.now) (words_of c.args.words.now) p c.in-Ok-load_parts.loaded.objects c.in-Ok-load_parts.ensures.loaded
    c.in-Ok.ensures.plan c.in-Ok-load_parts.ensures.files c.in-Ok-load_parts.ensures.archives c.in-Ok-load_parts.ensures.indexes c.in-Ok-load_parts.ensures.objects
    c.in-Ok-load_parts.ensures.groups
    c.in-Err-prepare_loaded.error
    (subst (λ (q : Plan). LinksRefuse q c.in-Ok-load_parts.loaded.objects c.in-Err-prepare_loaded.error) c.in-Ok-load_parts.ensures.plan
    c.in-Err-prepare_loaded.ensures.fault)

pub returns-clause-no_link : goal.returns-clause-no_link
returns-clause-no_link g c =
    denies_links (held_files c.args.parts.now c.args.files.now) (words_of c.args.words.now) c.in-Err-prepare_loaded.error (returns-clause-cause g c)

pub returns-in-Ok-prepare_loaded-clause-addresses : goal.returns-in-Ok-prepare_loaded-clause-addresses
returns-in-Ok-prepare_loaded-clause-addresses g c =
    own_addresses (held_files c.args.parts.now c.args.files.now) (words_of c.args.words.now) c.new.result (returns-in-Ok-prepare_loaded-clause-prepared g c)
