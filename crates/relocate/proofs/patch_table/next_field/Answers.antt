use Rattle.std.proofs.Common.{List, Option, ap, arith, get_or, subst, sym, ◌<◌, ◌∙◌}
use Rattle.std.specs.Prelude.{IsSome, find}
use Rattle.std.proofs.lemmas.List.{nil_from_length}
use Rattle.reloc_values.proofs.RisingRows.{first_has, none_earlier}
use Rattle.relocate.proofs.WantedParts.{touched, untouched}
use Rattle.reloc_values.specs.Patches.{covers, end_of}
use Rattle.relocate.specs.Values.{where_in}
use Rattle.reloc_values.specs.declared.patch.Patch.{Patch}
use Rattle.relocate.proofs.patch_table.next_field.Goals as goal

null_patch : Patch
null_patch = record { at = 0; value = 0; width = 0 }

pub returns-in-empty-clause-untouched : goal.returns-in-empty-clause-untouched
returns-in-empty-clause-untouched c = λ p here there k from below.
    let short = c.in-empty.len_below in
    untouched c.args.patches.now.objects (where_in c.args.patches.now) c.args.section.object.0 c.args.section.section c.row_of.result.now c.row_of.ensures.fields
    p here there k
    (sym (c.ending_after.ensures.found k from)
    ∙ ap (λ (row : List Patch). find (covers k) row) (nil_from_length c.ending_after.result.now (omega (arith, short))))

pub returns-in-len1-up-clause-untouched : goal.returns-in-len1-up-clause-untouched
unfolding null_patch
returns-in-len1-up-clause-untouched c = λ p here there k from below.
    let e = c.max.ensures in
    untouched c.args.patches.now.objects (where_in c.args.patches.now) c.args.section.object.0 c.args.section.section c.row_of.result.now c.row_of.ensures.fields
    p here there k
    (sym (c.ending_after.ensures.found k from)
    ∙ none_earlier c.ending_after.result.now null_patch k c.ending_after.ensures.rising (omega (arith, e, from, below)))

pub returns-in-len1-up-clause-touched : goal.returns-in-len1-up-clause-touched
unfolding null_patch
returns-in-len1-up-clause-touched c = λ some.
    let e = c.max.ensures in
    let there = c.in-len1-up.len_at_least in
    let rest = c.ending_after.result.now in
    let after : c.args.from < end_of (get_or rest 0 null_patch) = c.ending_after.ensures.after 0 null_patch there in
    let wide = (c.ending_after.ensures.rising.narrow 0 null_patch there).some in
    touched c.args.patches.now.objects (where_in c.args.patches.now) c.args.section.object.0 c.args.section.section c.row_of.result.now c.row_of.ensures.fields
    c.max.result
    (subst (λ (o : Option Patch). IsSome o) (c.ending_after.ensures.found c.max.result (omega (arith, e)))
    (first_has rest null_patch c.max.result there (omega (arith, e)) (omega (arith, e, after, wide))))
