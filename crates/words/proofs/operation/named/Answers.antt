-- each byte of the word was read
use Rattle.std.proofs.Common.{codes, sym, ap, arith, rules}
use Rattle.std.proofs.lemmas.Slice.Eq.{text_from_reads}
use Rattle.words.proofs.operation.named.Goals as goal
use Rattle.words.specs.Operation.{operation_named}

pub returns-in-create : goal.returns-in-create
returns-in-create c = sym (ap operation_named (text_from_reads c.args.word.now (codes "create") (omega arith) (search rules)))

pub returns-in-enter : goal.returns-in-enter
returns-in-enter c = sym (ap operation_named (text_from_reads c.args.word.now (codes "enter") (omega arith) (search rules)))

pub returns-in-pause : goal.returns-in-pause
returns-in-pause c = sym (ap operation_named (text_from_reads c.args.word.now (codes "pause") (omega arith) (search rules)))

pub returns-in-finish : goal.returns-in-finish
returns-in-finish c = sym (ap operation_named (text_from_reads c.args.word.now (codes "finish") (omega arith) (search rules)))

pub returns-in-destroy : goal.returns-in-destroy
returns-in-destroy c = sym (ap operation_named (text_from_reads c.args.word.now (codes "destroy") (omega arith) (search rules)))

pub returns-in-load : goal.returns-in-load
returns-in-load c = sym (ap operation_named (text_from_reads c.args.word.now (codes "load") (omega arith) (search rules)))

pub returns-in-store : goal.returns-in-store
returns-in-store c = sym (ap operation_named (text_from_reads c.args.word.now (codes "store") (omega arith) (search rules)))

pub returns-in-fetch : goal.returns-in-fetch
returns-in-fetch c = sym (ap operation_named (text_from_reads c.args.word.now (codes "fetch") (omega arith) (search rules)))

pub returns-in-register : goal.returns-in-register
returns-in-register c = sym (ap operation_named (text_from_reads c.args.word.now (codes "register") (omega arith) (search rules)))
