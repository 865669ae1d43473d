-- What the contracts promise is what is said of it: from the records and definitions that they cite, and nothing else.
use Rattle.proposals.specs.definitions.Reciprocal.{constant_list}
use Rattle.promises.specs.definitions.Contracts.{ContractClaims}

pub contracts_say : ContractClaims
unfolding constant_list
contracts_say = record {
  quotient_allowed = λ f g q c x u v on hu hv. (c.divisor x v on hv, c.quotient x u v on hu hv);
  root_positive = λ f h c x v on hv. c.radicand x v on hv;
  root_allowed = λ f h c x v y on hv. c.root x v y on hv;
  root_near = λ f h c x v on hv. let b = c.bounds x v on hv in (b.reaches, b.above, b.below);
  root_boxes = λ f h c x v on hv low high l u above below ordered low_fits nonneg high_fits.
      c.overlap x v low high l u on hv above below (record { ordered = ordered; low_fits = low_fits; high_nonneg = nonneg; high_fits = high_fits });
  series_allowed = λ s m c. (c.interval, c.value);
  tightest = λ a b c t. (t.passes, t.least_first, t.least_second);
  part_of_first = λ first second part p. p;
  part_of_second = λ first second part p. p;
  exact_reciprocal = λ g o c j b k l u. c j (record { power = record { is_good = b; constant = k }; from = l; to = u });
  exact_record = λ f g o c j b k l u a h.
      let s = c j (record { power = record { is_good = b; constant = k }; from = l; to = u }) a h in
      (s.ending, s.round, s.quotient, s.h, s.w, s.exact);
}
