-- the words of a line are its first word and those after it
use Rattle.tokens.proofs.Cuts.{words_cut}
use Rattle.tokens.proofs.words.first_word.Goals as goal

pub returns : goal.returns
returns c = let e = words_cut c.args.text.now in let f = c.cut.ensures.front in let g = c.cut.ensures.rest in cc
