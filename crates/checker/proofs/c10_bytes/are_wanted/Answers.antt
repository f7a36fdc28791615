use Rattle.std.proofs.Common.{◌+◌, List, drop, get_or, subst, sym, ◌∙◌}
use Rattle.std.proofs.lemmas.Bool.{false≢true}
use Rattle.check_relocs.specs.Bytes.{WantedFrom}
use Rattle.check_relocs.specs.declared.fields.Field.{Field}
use Rattle.elf_model.proofs.Rests.{rest_at}
use Rattle.checker.proofs.Sweeping.{Sweeps, at_least, field_same, front_same, sweep_more}
use Rattle.checker.proofs.c10_bytes.are_wanted.Goals as goal

null_field : Field
null_field = record { section = 0; at = 0; width = 0; value = 0 }

pub same_between-requires : goal.same_between-requires
unfolding null_field
same_between-requires c =
    let fs = c.args.fields.now in
    let i = c.loop-field.field-index in
    let Q = WantedFrom c.args.held.now c.args.bytes.now fs 0 c.args.size in
    at_least Q c.args.held.now c.args.bytes.now (get_or fs i null_field) (drop (i + 1) fs) c.loop-field.from c.args.size
    (subst (λ (gs : List Field). Sweeps Q c.args.held.now c.args.bytes.now gs c.loop-field.from c.args.size) (rest_at fs i null_field c.loop-field-test.true) c.loop-field.invariant)

pub returns-then-not-same_between : goal.returns-then-not-same_between
unfolding null_field
returns-then-not-same_between c =
    let fs = c.args.fields.now in
    let i = c.loop-field.field-index in
    let Q = WantedFrom c.args.held.now c.args.bytes.now fs 0 c.args.size in (
      λ e. absurd (false≢true e),
      λ q. absurd
          (false≢true
          (sym c.if-not-same_between.true
          ∙ c.same_between.ensures.1
          (front_same Q c.args.held.now c.args.bytes.now (get_or fs i null_field) (drop (i + 1) fs) c.loop-field.from c.args.size
          (subst (λ (gs : List Field). Sweeps Q c.args.held.now c.args.bytes.now gs c.loop-field.from c.args.size) (rest_at fs i null_field c.loop-field-test.true) c.loop-field.invariant)
          q))),
    )

pub returns-then-not-has_value_at : goal.returns-then-not-has_value_at
unfolding null_field
returns-then-not-has_value_at c =
    let fs = c.args.fields.now in
    let i = c.loop-field.field-index in
    let Q = WantedFrom c.args.held.now c.args.bytes.now fs 0 c.args.size in (
      λ e. absurd (false≢true e),
      λ q. absurd
          (false≢true
          (sym c.if-not-has_value_at.true
          ∙ c.has_value_at.ensures.1
          (field_same Q c.args.held.now c.args.bytes.now (get_or fs i null_field) (drop (i + 1) fs) c.loop-field.from c.args.size
          (subst (λ (gs : List Field). Sweeps Q c.args.held.now c.args.bytes.now gs c.loop-field.from c.args.size) (rest_at fs i null_field c.loop-field-test.true) c.loop-field.invariant)
          q))),
    )

pub loop-field-preserved : goal.loop-field-preserved
unfolding null_field
loop-field-preserved c =
    let fs = c.args.fields.now in
    let i = c.loop-field.field-index in
    let Q = WantedFrom c.args.held.now c.args.bytes.now fs 0 c.args.size in
    sweep_more Q c.args.held.now c.args.bytes.now (get_or fs i null_field) (drop (i + 1) fs) c.loop-field.from c.args.size
    (subst (λ (gs : List Field). Sweeps Q c.args.held.now c.args.bytes.now gs c.loop-field.from c.args.size) (rest_at fs i null_field c.loop-field-test.true) c.loop-field.invariant)
    (c.same_between.ensures.0 c.if-not-same_between.false) (c.has_value_at.ensures.0 c.if-not-has_value_at.false)
