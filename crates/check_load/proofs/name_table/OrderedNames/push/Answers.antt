use Rattle.std.proofs.Common.{rules, List, ℕ, None, ◌≡◌, subst, sym}
use Rattle.std.specs.List.{position}
use Rattle.std.specs.Str.{bytes_eq}
use Rattle.check_load.proofs.Numbering.{numbers_put}
use Rattle.check_load.proofs.name_table.OrderedNames.push.Goals as goal

pub invariant_of-self-in-Ok : goal.invariant_of-self-in-Ok
invariant_of-self-in-Ok c =
    numbers_put c.self.inside.names.items c.push.new.self.items c.self.inside.numbers c.insert.new.self c.args.name c.len-number.result c.self.invariant
    (subst (λ (ns : List (List ℕ)). position (bytes_eq c.args.name.now) ns ≡ None) (sym c.self.view_is) c.requires) c.in_ok-push.ensures.items (search rules)
    c.in-Ok.ensures.updates
