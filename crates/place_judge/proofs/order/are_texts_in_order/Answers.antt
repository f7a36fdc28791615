use Rattle.std.proofs.Common.{◌∙◌, List, subst, sym}
use Rattle.std.proofs.lemmas.Bool.{false≢true}
use Rattle.elf_model.specs.Image.MapRecord.{common_row}
use Rattle.elf_model.specs.Image.MapText.{Ascends, CommonBefore}
use Rattle.elf_model.specs.declared.link_map.CommonLine.{CommonLine}
use Rattle.judge_model.specs.Certificates.{NameRowBefore, name_row}
use Rattle.judge_model.specs.declared.certificate.NameLine.{NameLine}
use Rattle.place_judge.proofs.Orders.{rows_rise}
use Rattle.place_judge.proofs.order.are_texts_in_order.Goals as goal

pub returns-then-not-are_commons_rising : goal.returns-then-not-are_commons_rising
returns-then-not-are_commons_rising c =
    let commons = rows_rise CommonBefore common_row c.args.certificate.now.commons.items in (
      λ t. absurd (false≢true t),
      λ r.
          sym c.if-not-are_commons_rising.true
          ∙ c.are_commons_rising.ensures.1
          (subst (λ (xs : List CommonLine). Ascends (λ p q. CommonBefore (common_row p) (common_row q)) xs) (sym c.deref.ensures.value) (commons.1 r.commons)),
    )

pub returns : goal.returns
returns c =
    let commons = rows_rise CommonBefore common_row c.args.certificate.now.commons.items in
    let names = rows_rise NameRowBefore name_row c.args.certificate.now.names.items in (
      λ t. record {
        commons =
            commons.0
            (subst (λ (xs : List CommonLine). Ascends (λ p q. CommonBefore (common_row p) (common_row q)) xs) c.deref.ensures.value
            (c.are_commons_rising.ensures.0 c.if-not-are_commons_rising.false));
        names =
            names.0 (subst (λ (xs : List NameLine). Ascends (λ p q. NameRowBefore (name_row p) (name_row q)) xs) c.deref-2.ensures.value (c.are_names_rising.ensures.0 t));
      },
      λ r.
          c.are_names_rising.ensures.1
          (subst (λ (xs : List NameLine). Ascends (λ p q. NameRowBefore (name_row p) (name_row q)) xs) (sym c.deref-2.ensures.value) (names.1 r.names)),
    )
