use Rattle.std.proofs.Common.{◌≡◌, ℕ, Option, Some, None, subst, IfSome}
use Rattle.toml.specs.View.{table_view}
use Rattle.network_rows.specs.Table as keys
use Rattle.network_rows.specs.Rows.{IsNumberAt}
use Rattle.network_rows.proofs.make_row.virtual_link.Goals as goal

-- the size that is made of a number is that number
size_is : (made : Option ℕ) (size n : ℕ) → made ≡ Some size → IfSome made (λ s. s ≡ n) → n ≡ size
size_is (Some s) size n is value = cc
size_is None size n is value = cc

pub returns : goal.returns
returns c =
    let row = table_view c.args.row.now in
    record {
      id = c.number_at.ensures.number;
      bag_ms = c.number_at-2.ensures.number;
      smax = subst (IsNumberAt keys.smax row) (size_is c.new.result c.unwrap.result c.number_at-3.result c.unwrap.ensures c.new.ensures.value) c.number_at-3.ensures.number;
      priority = c.priority.ensures;
      policing_jitter_ns = c.number_at-4.ensures.number;
      policing = c.policing.ensures;
      skew_max_ns = c.number_at-5.ensures.number;
      depth = c.number_at-6.ensures.number;
      sub = c.number_at-7.ensures.number;
      own = c.stream.ensures;
    }
