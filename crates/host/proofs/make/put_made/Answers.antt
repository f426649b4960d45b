-- `host::make::put_made` meets its contract. The law of words that are not thirty-five, of sizes that are refused, and of a block that is made. Assumes nothing.
use Rattle.host.proofs.Words.{make-short, make-refused, make-done}
use Rattle.host.proofs.make.put_made.Goals as goal

pub returns-then-words-ne-WORDS : goal.returns-then-words-ne-WORDS
returns-then-words-ne-WORDS c = λ m k e. make-short m k _ c.if-words-ne-WORDS.true

pub returns-in_default : goal.returns-in_default
returns-in_default c = λ m k e. make-refused m k _ c.if-words-ne-WORDS.false e c.in_default.is

pub returns : goal.returns
returns c = λ m k e. make-done m k _ c.if-words-ne-WORDS.false e c.in-Ok.is c.write.ensures
