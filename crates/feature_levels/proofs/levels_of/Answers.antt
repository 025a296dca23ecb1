-- `feature_levels::levels_of` meets its contract: each part is a feature row's samples. Assumes nothing.
use Rattle.feature_levels.proofs.Samples.{part_fine, level_is}
use Rattle.feature_levels.proofs.levels_of.Goals as goal

pub squares_of-sums-requires : goal.squares_of-sums-requires
squares_of-sums-requires c =
    let f = c.requires.0 in (
      part_fine _ _ _ _ c.part-a.ensures f,
      part_fine _ _ _ _ c.part-b.ensures f,
      part_fine _ _ _ _ c.part-c.ensures f,
      part_fine _ _ _ _ c.part-d.ensures f,
    )

pub returns : goal.returns
returns c =
    let e = c.squares_of-sums.ensures in (
      level_is _ _ _ _ _ _ c.part-a.ensures e.0 c.root_mean.ensures,
      level_is _ _ _ _ _ _ c.part-b.ensures e.1 c.root_mean-2.ensures,
      level_is _ _ _ _ _ _ c.part-c.ensures e.2 c.root_mean-3.ensures,
      level_is _ _ _ _ _ _ c.part-d.ensures e.3 c.root_mean-4.ensures,
    )
