use Rattle.std.proofs.Common.{◌<◌, ◌≤◌, List, length, take, get_or, subst, arith}
use Rattle.std.specs.Prelude.{Contains}
use Rattle.std.proofs.lemmas.List.{take_more, get_or_default, take_all}
use Rattle.dom_base.specs.declared.addr.Addr.TheVariants.{V4}
use Rattle.dom_base.specs.declared.addr.Addr.{Addr}
use Rattle.std.proofs.lemmas.Bool.Decides.{not_from_Decides}
use Rattle.te_links.proofs.Counting.{Covers, covers_none, covers_kept, covers_more, full, whole}
use Rattle.te_links.proofs.survey.few_up_to.Goals as goal

pub loop-i-init : goal.loop-i-init
loop-i-init c = rw c.new-different.ensures.items (covers_none c.args.most)

pub loop-i-preserved : goal.loop-i-preserved
loop-i-preserved c =
    let addrs = c.args.addrs.now in
    let i = c.loop-i.i in
    let different = c.loop-i.different.items in
    let no_addr : Addr = V4 0 in
    let lacks = subst (λ (l : List Addr). ¬ Contains l (get_or addrs i no_addr)) c.deref.ensures.value (not_from_Decides c.stands.result c.stands.ensures c.if-stands.false) in
    let room : length different < c.args.most = omega (arith, c.len.ensures, c.if-len-most.false, c.loop-i.different.ok.0) in
    rw (take_more addrs i no_addr c.loop-i-test.true, c.in_ok-push.ensures.items) (covers_more (take i addrs) different (get_or addrs i no_addr) c.args.most lacks room c.loop-i.invariant)

pub loop-i-preserved-then-stands : goal.loop-i-preserved-then-stands
loop-i-preserved-then-stands c =
    let addrs = c.args.addrs.now in
    let i = c.loop-i.i in
    let different = c.loop-i.different.items in
    let no_addr : Addr = V4 0 in
    let has = subst (λ (l : List Addr). Contains l (get_or addrs i no_addr)) c.deref.ensures.value (c.stands.ensures.0 c.if-stands.true) in
    rw (take_more addrs i no_addr c.loop-i-test.true) (covers_kept (take i addrs) different (get_or addrs i no_addr) c.args.most has c.loop-i.invariant)

pub returns : goal.returns
returns c =
    let addrs = c.args.addrs.now in
    whole addrs c.loop-i.different.items c.args.most
    (subst (λ (l : List Addr). Covers l c.loop-i.different.items c.args.most) (take_all c.loop-i.i addrs c.loop-i-test.false) c.loop-i.invariant)

pub returns-then-len-most : goal.returns-then-len-most
returns-then-len-most c =
    let addrs = c.args.addrs.now in
    let i = c.loop-i.i in
    let different = c.loop-i.different.items in
    let no_addr : Addr = V4 0 in
    let lacks = subst (λ (l : List Addr). ¬ Contains l (get_or addrs i no_addr)) c.deref.ensures.value (not_from_Decides c.stands.result c.stands.ensures c.if-stands.false) in
    let no_room : c.args.most ≤ length different = omega (arith, c.len.ensures, c.if-len-most.true, c.loop-i.different.ok.0) in
    full addrs i different (get_or addrs i no_addr) c.args.most c.loop-i-test.true
    (get_or_default addrs i no_addr (get_or addrs i no_addr) c.loop-i-test.true) lacks no_room c.loop-i.invariant
