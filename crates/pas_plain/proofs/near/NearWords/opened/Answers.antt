use Rattle.std.proofs.{Common.{◌≡◌, List, ℕ, ◌-◌, ◌∙◌, ap, sym, arith, length, slice_index}, lemmas.List.length-replicate}
use Rattle.pas_profile.specs.declared.word.{Layout.Layout, Word.Word}
use Rattle.pas_plain.proofs.ShortOnes.{no_page}
use Rattle.pas_plain.proofs.near.NearWords.opened.Goals as goal

pub invariant_of-result : goal.invariant_of-result
invariant_of-result c =
    let pages : c.in_ok-words.words.layout.pages ≡ c.args.layout.pages = ap (λ (l : Layout). l.pages) c.in_ok-words.ensures.layout in record {
      sized = let all = ap (λ (ws : List ℕ). length ws) c.in_ok-firsts.ensures in
          let many = length-replicate {A = ℕ} c.args.layout.pages 0 in omega (arith, all, many, pages, c.in_ok-firsts.firsts.ok.0);
      same = λ q low high. ap (λ (ws : List ℕ). slice_index ws (q - 1)) c.in_ok-firsts.ensures ∙ no_page c.args.layout.pages (q - 1)
          ∙ sym (c.in_ok-words.ensures.values (Word.Life q 0) (low, omega (arith, high, pages), omega arith));
    }
