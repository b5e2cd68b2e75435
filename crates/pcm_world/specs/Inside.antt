-- The numbers of the members of a world's groups.
use Rattle.std.specs.Prelude.{List}
use Rattle.pcm_base.specs.declared.ids.SubId.{SubId}
use Rattle.pcm_world.specs.declared.groups.Groups.{Groups}
use Rattle.pcm_world.specs.Groups.{numbers_in}

abbrev pub numbers_inside : Groups → List (List SubId)
numbers_inside gs = numbers_in gs.items.items
