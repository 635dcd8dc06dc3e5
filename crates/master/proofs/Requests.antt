-- Laws of specs/Request.antt: what is known of a request as it is lent, and of one that 7 does not refuse. Assumes nothing.
use Rattle.std.proofs.Common.{◌≡◌, refl, subst, true, List, ℕ, ◌+◌, ◌/◌, ◌≤◌, arith, leb-true, eqb-true, leb, lit≤, length}
use Prim.{tt}
use Rattle.wire.proofs.Tests.{and_true}
use Rattle.card.specs.Layout.{data_most}
use Rattle.card.specs.Fitness.{ia_most}
use Rattle.master.specs.Request.{Ask, Request, ask_of, ask_in, named_by, named_most, paired, address_most, address_end, askable}
use Rattle.master.specs.Frames.{data_of}
use Rattle.master.proofs.Frames.{few_of}
use Rattle.master.specs.Request.Ask.{bytes, bits}
use Rattle.master.specs.Accepted.{Accepted}
use Rattle.master.specs.declared.request.Kind.{Kind}
use Rattle.master.specs.declared.request.Kind.TheVariants.{Bytes, Bits}
use Rattle.master.specs.declared.request.Ask.{Ask as Lent}
use Rattle.master.specs.declared.request.Askable.{Askable}

pub named_sent : (lent : Lent) → named_by (ask_in lent) ≡ length lent.sent.now
named_sent lent = by lent.kind
  where
    by : (kind : Kind) → named_by (ask_of kind lent.sent.now lent.states.now) ≡ length lent.sent.now
    by Bytes = refl
    by Bits = refl

pub named_few : (a : Ask) → named_most a ≤ data_most
named_few (bytes sent) = lit≤ tt
named_few (bits masks states) = lit≤ tt

pub paired_bits : (kind : Kind) (sent states : List ℕ) → kind ≡ Bits → paired (ask_of kind sent states) ≡ true → length sent ≡ length states
paired_bits kind sent states e h = eqb-true (length sent) (length states) (subst (λ (k : Kind). paired (ask_of k sent states) ≡ true) e h)

-- how many bytes are lent, and how many data bytes the change has
module _ (r : Askable) where
  pub sent_few : length r.ask.sent.now ≤ data_most
  sent_few = omega (arith, r.accepted.few, named_sent r.ask, named_few (ask_in r.ask))

  pub bits_few : r.ask.kind ≡ Bits → length r.ask.sent.now + length r.ask.sent.now ≤ data_most
  bits_few e =
      let few : length r.ask.sent.now ≤ data_most / 2 =
      subst (λ (k : Kind). named_by (ask_of k r.ask.sent.now r.ask.states.now) ≤ named_most (ask_of k r.ask.sent.now r.ask.states.now)) e r.accepted.few in
      omega arith

  pub data_few : length (data_of (ask_in r.ask)) ≤ data_most
  data_few = few_of (ask_in r.ask) r.accepted.few r.accepted.pairs

pub accepted : (q : Request) → askable q ≡ true → Accepted q
unfolding askable
accepted q e =
    let a = and_true (leb q.ia ia_most) _ e in
    let b = and_true (leb (named_by q.ask) (named_most q.ask)) _ a.1 in
    let d = and_true (paired q.ask) _ b.1 in
    let f = and_true (leb q.address address_most) (leb (q.address + named_by q.ask) address_end) d.1 in
    record {
      ia = leb-true q.ia ia_most a.0;
      few = leb-true (named_by q.ask) (named_most q.ask) b.0;
      pairs = d.0;
      address = leb-true q.address address_most f.0;
      end = leb-true (q.address + named_by q.ask) address_end f.1;
    }
