use Rattle.std.proofs.Common.{sym}
use Rattle.lexical.proofs.ClassLemmas.{start_digit, start_double_quote, start_front_mark, start_letter, start_quote}
use Rattle.lexical.proofs.ClassLemmas.{start_slash, start_white}
use Rattle.lexical.proofs.class.piece_start_of.Goals as goal

pub returns-then-holds : goal.returns-then-holds
returns-then-holds c = sym (start_letter c.args.c (sym c.if-holds.ensures))

pub returns-then-holds-2 : goal.returns-then-holds-2
returns-then-holds-2 c = sym (start_white c.args.c (sym c.if-holds-2.ensures))

pub returns-then-holds-3 : goal.returns-then-holds-3
returns-then-holds-3 c = sym (start_digit c.args.c (sym c.if-holds-3.ensures))

pub returns-in-47 : goal.returns-in-47
returns-in-47 c = rw c.in-47.is (sym start_slash)

pub returns-in-39 : goal.returns-in-39
returns-in-39 c = rw c.in-39.is (sym start_quote)

pub returns-in-34 : goal.returns-in-34
returns-in-34 c = rw c.in-34.is (sym start_double_quote)

pub returns-in-65279 : goal.returns-in-65279
returns-in-65279 c = rw c.in-65279.is (sym start_front_mark)
