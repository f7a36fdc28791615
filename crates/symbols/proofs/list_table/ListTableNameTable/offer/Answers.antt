use Rattle.std.proofs.Common.{◌∙◌, ap, subst, sym}
use Rattle.std.specs.Prelude.{List}
use Rattle.symbols.specs.Lists.{HasNamesOnce, NamedRow, place_in, row_in}
use Rattle.symbols.specs.Rows.{offered}
use Rattle.symbols.proofs.NameRows.{place_none, push_offered, push_once, set_offered, set_once}
use Rattle.symbols.proofs.list_table.ListTableNameTable.offer.Goals as goal

pub invariant_of-self : goal.invariant_of-self
invariant_of-self c =
    set_once c.self.inside.rows.items c.in-Some.place c.index_mut.result.now c.take_in.new.row c.index_mut.ensures.value c.self.invariant

pub returns-in-Some-clause-taken : goal.returns-in-Some-clause-taken
returns-in-Some-clause-taken c =
    let rows = c.self.inside.rows.items in
    let name = c.args.name.now in
    let place = sym (c.in-Some.ensures ∙ ap (λ es. place_in es name) c.deref.ensures.value) in
    set_offered rows name c.args.candidate c.in-Some.place c.index_mut.result.now c.take_in.new.row place c.index_mut.ensures.value c.take_in.ensures
    ∙ ap (λ (es : List NamedRow). offered name c.args.candidate (row_in es)) c.self.view_is

pub invariant_of-self-2 : goal.invariant_of-self-2
invariant_of-self-2 c =
    let rows = c.self.inside.rows.items in
    let name = c.args.name.now in
    let place = sym (c.in_default.ensures ∙ ap (λ es. place_in es name) c.deref.ensures.value) in
    subst HasNamesOnce (sym c.in_ok-push.ensures.items)
    (push_once rows (record { 0 = c.args.name }) c.take_in-2.new.row (place_none rows name place) c.self.invariant)

pub returns-clause-taken : goal.returns-clause-taken
returns-clause-taken c =
    let rows = c.self.inside.rows.items in
    let name = c.args.name.now in
    let place = sym (c.in_default.ensures ∙ ap (λ es. place_in es name) c.deref.ensures.value) in
    ap row_in c.in_ok-push.ensures.items
    ∙ push_offered rows (record { 0 = c.args.name }) c.args.candidate c.take_in-2.new.row place c.take_in-2.ensures
    ∙ ap (λ (es : List NamedRow). offered name c.args.candidate (row_in es)) c.self.view_is
