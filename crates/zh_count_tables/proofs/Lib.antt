mod QuorumLemmas
mod VotesLemmas
