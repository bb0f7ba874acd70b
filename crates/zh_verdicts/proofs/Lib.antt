mod PutLemmas
mod ShownLemmas
