-- `similarities::fill_block` meets its contract: the block is made (`block_made`), and its rows' slots are put. Assumes nothing.
use native.Mathlib.Omega.{arith}
use lib.ListN.{replicate, length-replicate}
use Rattle.numbers.specs.Rounded.{nought}
use Rattle.similarities.proofs.Blocks.{block_made}
use Rattle.similarities.proofs.fill_block.Goals as goal

pub put_block-requires : goal.put_block-requires
put_block-requires c =
    let a = c.args in
    let p = c.requires in
    let e = c.min-count.ensures in (
      p.0,
      p.1,
      p.2,
      p.3,
      p.4,
      rw (← e)
          (block_made a.features.now a.first c.min-count.result _ _ _ (replicate 128 nought) (omega arith) (length-replicate 128 nought)
          c.turn.ensures c.square_rows.ensures c.root_all.ensures),
    )
