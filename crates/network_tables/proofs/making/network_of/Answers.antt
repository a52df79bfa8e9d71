use Rattle.std.proofs.Common.{List, map, refl, ap, sym, subst, IsPermutation}
use Rattle.network.specs.Words.{VlPlan, node_plan, IsPlanOf}
use Rattle.network_tables.proofs.making.network_of.Goals as goal

pub network_with-requires : goal.network_with-requires
network_with-requires c =
    let rows = c.args.rows in
    let lists = c.in_ok-made.ensures.numbered.1 in
    record {
      rows = rows;
      within = c.requires;
      stands = record {
        none = c.in_ok-made.ensures.numbered.0;
        until = refl;
        seed = refl;
        nodes = ap (map node_plan) c.in_ok-made.ensures.nodes;
        links = ap (λ p. p.links) lists;
        outages = ap (λ p. p.outages) lists;
        vls = subst (λ (before : List VlPlan). IsPermutation before c.sort_vls.new.vls.items) (ap (λ p. p.vls) lists) c.in_ok-sort_vls.ensures.moved;
        in_order = c.in_ok-sort_vls.ensures.in_order;
        streams = ap (λ p. p.streams) lists;
      };
    }

pub returns : goal.returns
returns c =
    let lists = c.in_ok-made.ensures.numbered.1 in
    subst (IsPlanOf c.args.rows) (sym c.in_ok-network.ensures) (record {
      none = c.in_ok-made.ensures.numbered.0;
      until = refl;
      seed = refl;
      nodes = ap (map node_plan) c.in_ok-made.ensures.nodes;
      links = ap (λ p. p.links) lists;
      outages = ap (λ p. p.outages) lists;
      vls = subst (λ (before : List VlPlan). IsPermutation before c.sort_vls.new.vls.items) (ap (λ p. p.vls) lists) c.in_ok-sort_vls.ensures.moved;
      in_order = c.in_ok-sort_vls.ensures.in_order;
      streams = ap (λ p. p.streams) lists;
    })
