use Rattle.own_link.proofs.OwnRight.{own_is_right}
use Rattle.own_link.proofs.own_link_is_right.Goals as goal

pub returns : goal.returns
returns c = λ files words p m link based small own_map is_map. own_is_right files words p m link based small own_map is_map
