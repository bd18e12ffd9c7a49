use Rattle.declarations.proofs.ItemKindLemmas.{default_async, default_const, default_fn, default_impl, default_type}
use Rattle.declarations.proofs.ItemKindLemmas.{default_unsafe_item}
use Rattle.declarations.proofs.item_kinds.default_item.Goals as goal

pub returns-in-Async : goal.returns-in-Async
returns-in-Async c =
    default_async c.args.trees.now c.args.rest.now c.args.keyword c.past_async.result c.requires c.in-Async.is
    c.past_async.ensures

pub returns-in-Const : goal.returns-in-Const
returns-in-Const c =
    default_const c.args.trees.now c.args.rest.now c.args.keyword c.past_const.result c.requires c.in-Const.is
    c.past_const.ensures

pub returns-in-Impl : goal.returns-in-Impl
returns-in-Impl c =
    default_impl c.args.trees.now c.args.rest.now c.args.keyword c.named_item.result c.requires c.in-Impl.is
    c.named_item.ensures

pub returns-in-Type : goal.returns-in-Type
returns-in-Type c =
    default_type c.args.trees.now c.args.rest.now c.args.keyword c.named_item-in-Type.result c.requires c.in-Type.is
    c.named_item-in-Type.ensures

pub returns-in-Unsafe : goal.returns-in-Unsafe
returns-in-Unsafe c =
    default_unsafe_item c.args.trees.now c.args.rest.now c.args.keyword c.past_default_unsafe.result c.requires
    c.in-Unsafe.is c.past_default_unsafe.ensures

pub returns-in_default : goal.returns-in_default
returns-in_default c =
    default_fn c.args.trees.now c.args.rest.now c.args.keyword c.past_function_front.result c.requires
    c.in_default.not-Async c.in_default.not-Const c.in_default.not-Impl c.in_default.not-Type c.in_default.not-Unsafe
    c.past_function_front.ensures
