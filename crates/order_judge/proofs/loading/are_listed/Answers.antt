use Rattle.std.proofs.Common.{List, map, subst, sym, ◌∙◌}
use Rattle.std.specs.Prelude.{AllPairs, IsPermutation}
use Rattle.std.proofs.lemmas.Bool.{false≢true}
use Rattle.elf_model.specs.Image.MapRecord.{object_row}
use Rattle.elf_model.specs.Inputs.Files.{files_of}
use Rattle.elf_model.specs.Inputs.Opening.{Opened, opened}
use Rattle.elf_model.specs.Link.Loading.{loaded_objects}
use Rattle.judge_model.specs.Loaded.{Origin, origin_of}
use Rattle.order_judge.specs.Lines.{AreLines}
use Rattle.order_judge.specs.Origins.{origin_of_line}
use Rattle.order_judge.specs.Turns.{AreOriginsInTurn}
use Rattle.order_judge.proofs.OrderLaws.{lines_are}
use Rattle.order_judge.proofs.loading.are_listed.Goals as goal

pub returns-then-not-branch-clause-listed : goal.returns-then-not-branch-clause-listed
returns-then-not-branch-clause-listed c =
    let loaded = map origin_of (loaded_objects (files_of c.args.files.now) c.args.plan.now) in (
      λ t. absurd (false≢true t),
      λ listed. absurd
          (false≢true
          (sym c.if-not-branch.true ∙ c.in_ok-are_loaded.ensures.same.1 (subst (IsPermutation loaded) (lines_are c.args.rows.now) listed.same))),
    )

pub returns-then-not-are_lines-clause-listed : goal.returns-then-not-are_lines-clause-listed
returns-then-not-are_lines-clause-listed c = (
  λ t. absurd (false≢true t),
  λ listed. absurd
      (false≢true
      (sym c.if-not-are_lines.true
      ∙ c.are_lines.ensures.1 (subst (λ (os : List Opened). AreLines os 0 (map object_row c.args.rows.now)) (sym c.requires) listed.lines))),
)

pub returns-clause-listed : goal.returns-clause-listed
returns-clause-listed c =
    let loaded = map origin_of (loaded_objects (files_of c.args.files.now) c.args.plan.now) in
    let items = opened (files_of c.args.files.now) c.args.plan.now in
    let origins = map origin_of_line c.args.rows.now in (
      λ t. record {
        same = subst (IsPermutation loaded) (sym (lines_are c.args.rows.now)) (c.in_ok-are_loaded.ensures.same.0 c.if-not-branch.false);
        lines =
            subst (λ (os : List Opened). AreLines os 0 (map object_row c.args.rows.now)) c.requires (c.are_lines.ensures.0 c.if-not-are_lines.false);
        turns =
            subst (λ (l : List Origin). AllPairs (AreOriginsInTurn items) l) (sym (lines_are c.args.rows.now))
            (subst (λ (os : List Opened). AllPairs (AreOriginsInTurn os) origins) c.requires (c.are_in_turn.ensures.0 t));
      },
      λ listed.
          c.are_in_turn.ensures.1
          (subst (λ (os : List Opened). AllPairs (AreOriginsInTurn os) origins) (sym c.requires)
          (subst (λ (l : List Origin). AllPairs (AreOriginsInTurn items) l) (lines_are c.args.rows.now) listed.turns)),
    )
