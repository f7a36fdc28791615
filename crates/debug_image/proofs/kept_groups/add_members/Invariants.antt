use Rattle.std.proofs.Common.{◌≡◌, take}
use Rattle.indexmap.specs.IndexMap.{get}
use Rattle.search.specs.Views.{loaded_view}
use Rattle.debug_image.specs.KeptTables.{key_eq, member_behind}
use Rattle.debug_image.specs.declared.kept_groups.MemberKey.{MemberKey}
use Rattle.debug_image.proofs.kept_groups.add_members.Given as goal

abbrev pub invariant-loop-member : goal.invariant-loop-member
invariant-loop-member l =
    (key : MemberKey) → get key_eq l.members key ≡ member_behind l.fn.members l.group l.number (loaded_view l.loaded) (take l.member-index l.listed) key
