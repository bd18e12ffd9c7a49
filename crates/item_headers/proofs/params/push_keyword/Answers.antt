use Rattle.std.proofs.Common.{◌≡◌, OnOk, subst, sym}
use Rattle.std.specs.Str.{chars}
use Rattle.declarations.specs.declared.generics.ParamKind.TheVariants as kinds
use Rattle.item_headers.proofs.HeaderLemmas.{keyword_is}
use Rattle.item_headers.specs.Header.{keyword}
use Rattle.pm_stream.proofs.BuildingLemmas.{joined_nil}
use Rattle.proc_macro2.specs.Forest.{chain}
use Rattle.item_headers.proofs.params.push_keyword.Goals as goal

pub returns-in-Lifetime : goal.returns-in-Lifetime
returns-in-Lifetime c =
    keyword_is kinds.Lifetime c.args.kind c.args.quote.now c.args.quote.now c.in-Lifetime.is
    (sym (joined_nil c.args.quote.now))

pub returns-in-Type : goal.returns-in-Type
returns-in-Type c =
    keyword_is kinds.Type c.args.kind c.args.quote.now c.args.quote.now c.in-Type.is (sym (joined_nil c.args.quote.now))

pub returns-in-Const : goal.returns-in-Const
unfolding chars
returns-in-Const c =
    subst (λ k. OnOk c.push_word.result (c.push_word.new.quote ≡ chain c.args.quote.now (keyword k)))
    (sym c.in-Const.is) c.push_word.ensures
