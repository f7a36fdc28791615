use Rattle.std.proofs.Common.{inl, inr, refl, subst, sym, ◌∙◌, false, true, IsTrue}
use Rattle.std.proofs.lemmas.Bool.{false≢true}
use Rattle.check_load.specs.Views.{loaded_view}
use Rattle.keep_judge.specs.Collected.{HasNone, IsWholeIn}
use Rattle.keep_judge.proofs.groups.is_whole.Goals as goal

pub returns-then-lacks : goal.returns-then-lacks
returns-then-lacks c = (
  λ t. inl (subst (HasNone c.args.drops.now c.args.number (loaded_view c.args.loaded.now) true) c.members-members.ensures (c.has_none-lacks.ensures.0 c.if-lacks.true)),
  λ w. refl,
)

pub returns : goal.returns
returns c = (
  λ t. inr (subst (HasNone c.args.drops.now c.args.number (loaded_view c.args.loaded.now) false) c.members-members.ensures (c.has_none-has.ensures.0 t)),
  λ w. by w,
)
  where
    by : IsWholeIn c.args.drops.now c.args.number (loaded_view c.args.loaded.now) c.args.group.now → IsTrue c.has_none-has.result
    by (inl none) = absurd
        (false≢true
        (sym c.if-lacks.false
        ∙ c.has_none-lacks.ensures.1 (subst (HasNone c.args.drops.now c.args.number (loaded_view c.args.loaded.now) true) (sym c.members-members.ensures) none)))
    by (inr all) = c.has_none-has.ensures.1 (subst (HasNone c.args.drops.now c.args.number (loaded_view c.args.loaded.now) false) (sym c.members-members.ensures) all)
