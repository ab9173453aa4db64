use Rattle.std.proofs.Common.{inl, inr, sym, ap, ◌∙◌}
use Rattle.std.specs.Option.{option_copied_mut}
use Rattle.snow_tree.proofs.Seen.{kept_loaded, load_seen, load_at}
use Rattle.snow_tree.proofs.tree.Tree.load_mut.Goals as goal

pub invariant_of-self-lent : goal.invariant_of-self-lent
invariant_of-self-lent g c = λ w. kept_loaded c.self.inside.last c.self.inside.children c.self.inside.nodes.entries _ c.args.place w c.self.invariant

pub returns-in-Some : goal.returns-in-Some
returns-in-Some g c =
    let nodes = c.self.inside.nodes.entries in
    let there = sym c.load_mut.ensures.value ∙ ap option_copied_mut c.in-Some.is in
    rw (← c.self.view_is) (
      (λ i. inl (
        c.in-Some.load.ghost_name,
        λ w. record {
          last = c.self.inside.last;
          height = c.self.inside.height;
          pending = load_seen nodes c.args.place w i;
          rejected = c.self.inside.rejected.items;
        },
      )),
      record { writes_back = tt; value = sym (load_at nodes c.args.place ∙ there) },
    )

pub returns-in-None : goal.returns-in-None
returns-in-None g c =
    let nodes = c.self.inside.nodes.entries in
    let there = sym c.load_mut.ensures.value ∙ ap option_copied_mut c.in-None.is in
    (λ i. inr (c.self.view_is i), record { writes_back = tt; value = rw (← c.self.view_is) (sym (load_at nodes c.args.place ∙ there)) })
