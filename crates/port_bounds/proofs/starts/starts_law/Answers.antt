use Rattle.std.proofs.Common.{◌≡◌, [], None, true}
use Rattle.port_bounds.proofs.StartLemmas.{apart, high-put, low-put}
use Rattle.port_bounds.proofs.starts.starts_law.Goals as goal

pub returns : goal.returns
returns c = record {
  apart = λ es h. apart es 0 None [] [] h;
  high = λ test es h. high-put (λ x. test x ≡ true) es h;
  low = λ test es h. low-put (λ x. test x ≡ true) es h;
}
