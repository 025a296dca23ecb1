-- `label_lines::put_line` meets its contract: a time, a tab, the time again, and the word. Assumes nothing.
use native.Mathlib.Omega.{arith}
use Rattle.texts.proofs.Puts.{put_then}
use Rattle.label_lines.specs.Lines.{label_line}
use Rattle.label_lines.proofs.Lines.{line_length_lem}
use Rattle.label_lines.proofs.put_line.Goals as goal

pub put_seconds-e1-requires : goal.put_seconds-e1-requires
put_seconds-e1-requires c = omega (arith, c.requires, line_length_lem c.args.u)

pub put_byte-e2-requires : goal.put_byte-e2-requires
put_byte-e2-requires c =
    let d = c.put_seconds-e1 in omega (
      arith,
      c.requires,
      line_length_lem
          c.args.u,
      d.ensures.end_is,
      d.auto.out,
    )

pub put_seconds-e3-requires : goal.put_seconds-e3-requires
put_seconds-e3-requires c =
    let d
    = c.put_seconds-e1 in let b = c.put_byte-e2 in omega
    (arith, c.requires, line_length_lem c.args.u, d.ensures.end_is, d.auto.out, b.ensures.end_is, b.auto.out)

pub put_words-requires : goal.put_words-requires
put_words-requires c =
    let d
    = c.put_seconds-e1 in let b
    = c.put_byte-e2 in let f = c.put_seconds-e3 in omega
    (arith, c.requires, line_length_lem c.args.u, d.ensures.end_is, d.auto.out, b.ensures.end_is, b.auto.out, f.ensures.end_is, f.auto.out)

pub returns : goal.returns
unfolding label_line
returns c =
    let d = c.put_seconds-e1 in
    let b = c.put_byte-e2 in
    let f = c.put_seconds-e3 in
    put_then d.ensures (put_then b.ensures (put_then f.ensures c.put_words.ensures))
