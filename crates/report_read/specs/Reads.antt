-- Document 01, "The reporting program": what is read from standard input. No contract can say which bytes come: that they are those of standard
-- input, in their order and to its end or its refusal, is not proved; runs show it. The record says that there is an input of which all that follows
-- is right. Where it is refused before its end, so is the whole, with the same number (`Decides`, report_feed).
-- What is told of an input as it comes is in crate report_feed, and holds for every input.
use Rattle.std.specs.Prelude.{List, ℕ, Float}
use Rattle.report_feed.specs.declared.Reading.{Reading}
use Rattle.report_head.specs.declared.Feed.{Feed}
use Rattle.report_feed.specs.Feeds.{Fed, Told}

-- some input has come so far
pub record Coming (feed : Feed) (held : List ℕ) (kept was flux : List Float) : Type 0 where
  pub input : List ℕ
  pub fed : Fed input feed held kept was flux

-- the input that was read: its number, and where nothing refuses it, its rows and their flux
pub record InputRead (was : List Float) (answer : Reading) (flux : List Float) : Type 0 where
  pub input : List ℕ
  pub told : Told input answer was flux
